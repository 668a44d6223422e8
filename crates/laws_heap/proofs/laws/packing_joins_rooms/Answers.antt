use Rattle.laws_heap.proofs.SlidImages.{packed_runs}
use Rattle.laws_heap.proofs.laws.packing_joins_rooms.Goals as goal

pub returns : goal.returns
returns c = packed_runs
