-- Nothing is lent.
use Rattle.std.proofs.Common.{[], ◌≡◌}
use Rattle.std.specs.Prelude.{None}
use Rattle.test_managers.proofs.files.importing.files_with_a_fault_are_refused.Given as goal

abbrev pub invariant-loop-listing : goal.invariant-loop-listing
invariant-loop-listing l = l.store.lents ≡ []
