-- The loop of `find_bad_slot` keeps its invariant: the words before the index are good, and marked.
use Rattle.store_check.proofs.SlotLaws.{SlotsSoFar}
use Rattle.store_check.proofs.slots.find_bad_slot.Given as goal

abbrev pub invariant-loop-index : goal.invariant-loop-index
invariant-loop-index l = SlotsSoFar l.region.bytes l.marks l.index
