-- Compaction does its step, and leaves all stretches packed.
use Rattle.mem_manager.proofs.Laws.{chunks_of, packed_alike, compacted}
use Rattle.laws_heap.proofs.Packings.{packed_is_packed, packed_slid}
use Rattle.mem_manager.proofs.StepWords.{managed_alike}
use Rattle.mem_manager.proofs.heap.Heap.compact.Goals as goal

pub invariant_of-self : goal.invariant_of-self
invariant_of-self c = let b = c.compact.ensures.packed in managed_alike c.self.invariant
    c.compact.ensures.heap b.frame (packed_alike _ _ c.self.invariant.heap.accepted b).holds

pub returns-clause-does : goal.returns-clause-does
returns-clause-does c =
    rw (← c.self.view_is)
    (compacted c.compact.new.self c.self.invariant.heap c.compact.ensures.packed c.compact.ensures.moved c.compact.ensures.rest)

pub returns-clause-packed : goal.returns-clause-packed
returns-clause-packed c =
    rw (← c.compact.ensures.exact) at (packed_is_packed (chunks_of c.self.inside.space.bytes))

pub returns-clause-chunks : goal.returns-clause-chunks
returns-clause-chunks c =
    rw (← c.self.view_is)
    (rw (← c.compact.ensures.exact) at (packed_slid (chunks_of c.self.inside.space.bytes)))
