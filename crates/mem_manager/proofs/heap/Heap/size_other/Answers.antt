-- The reply is what was found of the chunk.
use Rattle.mem_manager.proofs.ChunkCalls.{size_known}
use Rattle.mem_manager.proofs.heap.Heap.size_other.Goals as goal

pub returns : goal.returns
returns c = rw (← c.self.view_is) (size_known c.in_ok-found.ensures.callers)
