-- The reply is what was found of the chunk.
use Rattle.mem_manager.proofs.ChunkCalls.{locks_known}
use Rattle.mem_manager.proofs.heap.Heap.locks.Goals as goal

pub returns : goal.returns
returns c = rw (← c.self.view_is) (locks_known c.in_ok-found.ensures.callers)
