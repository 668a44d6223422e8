-- The loop of `find_unmarked` keeps its invariant: the slots before this number are marked if in
-- use.
use Rattle.heap_check.proofs.Words.{map, first_slots, EveryOne, IsMarked}
use Rattle.heap_check.proofs.slots.find_unmarked.Given as goal

abbrev pub invariant-loop-number : goal.invariant-loop-number
invariant-loop-number g l = EveryOne (IsMarked l.region.bytes (map g.M.Mark.says l.marks))
    (first_slots l.region.bytes l.number)
