-- The slot 0 has no chunk to free; any other has one that is no part of the directory.
use Rattle.palm_store.proofs.TwoSteps.{none_freed}
use Rattle.std.proofs.Common.{arith}
use Rattle.palm_store.proofs.Loans.{unlocked_here}
use Rattle.palm_store.proofs.chunks.free_chunk_of.Goals as goal

pub returns-else-slot-ne0-clause-leaves : goal.returns-else-slot-ne0-clause-leaves
returns-else-slot-ne0-clause-leaves c = none_freed c.args.heap.now.bytes c.args.slot.0 c.requires.heap c.if-slot-ne0.false

pub sys_free-requires-clause-here : goal.sys_free-requires-clause-here
sys_free-requires-clause-here c =
    let some = c.if-slot-ne0.true in
    unlocked_here c.args.heap.now c.args.slot.0 c.sys_find-chunk.result c.requires.heap c.sys_find-chunk.ensures.stands (c.requires.movable (omega (arith, some))) (c.requires.unlocked (omega (arith, some))) c.sys_find-chunk.ensures.unlocked
