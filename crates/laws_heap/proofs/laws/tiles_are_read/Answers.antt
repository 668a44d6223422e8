use Rattle.laws_heap.proofs.Runs.{chunks_of-tiled}
use Rattle.laws_heap.proofs.laws.tiles_are_read.Goals as goal

pub returns : goal.returns
returns c = chunks_of-tiled
