use Rattle.laws_heap.proofs.Packings.{packed_is_packed, packed_slid}
use Rattle.laws_heap.proofs.laws.packing_is_packed.Goals as goal

pub returns : goal.returns
returns c chunks = (packed_is_packed chunks, packed_slid chunks)
