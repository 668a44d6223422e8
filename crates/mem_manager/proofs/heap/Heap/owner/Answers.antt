-- The reply is what was found of the chunk.
use Rattle.mem_manager.proofs.ChunkCalls.{owner_known}
use Rattle.mem_manager.proofs.heap.Heap.owner.Goals as goal

pub returns : goal.returns
returns c = rw (← c.self.view_is) (owner_known c.in_ok-found.ensures.callers)
