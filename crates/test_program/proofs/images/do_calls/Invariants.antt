-- Nothing is lent.
use Rattle.std.proofs.Common.{[], ◌≡◌}
use Rattle.std.specs.Prelude.{None}
use Rattle.test_program.proofs.images.do_calls.Given as goal

abbrev pub invariant-loop : goal.invariant-loop
invariant-loop l = l.store.lents ≡ []
