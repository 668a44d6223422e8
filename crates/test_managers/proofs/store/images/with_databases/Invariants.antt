-- Nothing is lent.
use Rattle.std.proofs.Common.{[], ◌≡◌}
use Rattle.std.specs.Prelude.{None}
use Rattle.test_managers.proofs.store.images.with_databases.Given as goal

abbrev pub invariant-loop-number : goal.invariant-loop-number
invariant-loop-number l = l.store.lents ≡ []
