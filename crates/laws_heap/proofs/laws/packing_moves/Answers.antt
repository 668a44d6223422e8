use Rattle.laws_heap.proofs.SlidImages.{packed_moved}
use Rattle.laws_heap.proofs.laws.packing_moves.Goals as goal

pub returns : goal.returns
returns c = packed_moved
