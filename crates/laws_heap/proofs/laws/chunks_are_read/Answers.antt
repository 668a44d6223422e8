use Rattle.laws_heap.proofs.Shapes.{chunk_at-spelled, chunk_at-stands}
use Rattle.laws_heap.proofs.laws.chunks_are_read.Goals as goal

pub returns : goal.returns
returns c image at chunk = (chunk_at-stands image at chunk, chunk_at-spelled image at chunk)
