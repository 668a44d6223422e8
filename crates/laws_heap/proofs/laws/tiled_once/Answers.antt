use Rattle.laws_heap.proofs.Runs.{Tiles-unique}
use Rattle.laws_heap.proofs.laws.tiled_once.Goals as goal

pub returns : goal.returns
returns c = Tiles-unique
