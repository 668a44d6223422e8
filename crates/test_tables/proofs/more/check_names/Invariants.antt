-- The heap lends what it lent.
use Rattle.std.proofs.Common.{[], ◌≡◌}
use Rattle.test_tables.proofs.more.check_names.Given as goal

abbrev pub invariant-loop-name : goal.invariant-loop-name
invariant-loop-name l = l.heap.lents ≡ l.initial.heap.lents

abbrev pub invariant-loop-name-2 : goal.invariant-loop-name-2
invariant-loop-name-2 l = l.heap.lents ≡ l.initial.heap.lents
