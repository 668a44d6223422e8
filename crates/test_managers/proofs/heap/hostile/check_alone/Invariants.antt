-- What is lent stays lent.
use Rattle.std.proofs.Common.{[], ◌≡◌}
use Rattle.test_managers.proofs.heap.hostile.check_alone.Given as goal

abbrev pub invariant-loop-line : goal.invariant-loop-line
invariant-loop-line l = l.heap.lents ≡ l.initial.heap.lents
