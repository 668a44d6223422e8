-- Nothing is lent.
use Rattle.std.proofs.Common.{[], ◌≡◌}
use Rattle.test_managers.proofs.store.many.exports_are_refused_by_their_own_blocks.Given as goal

abbrev pub invariant-loop-line : goal.invariant-loop-line
invariant-loop-line l = l.store.lents ≡ []

abbrev pub invariant-loop-row : goal.invariant-loop-row
invariant-loop-row l = l.store.lents ≡ []
