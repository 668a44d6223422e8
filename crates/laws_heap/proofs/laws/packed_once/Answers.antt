-- Two lemmas of slid images: one for the chunks, one for the layout.
use Rattle.laws_heap.proofs.SlidImages.{packed_chunks, packed_layout}
use Rattle.laws_heap.proofs.laws.packed_once.Goals as goal

pub returns : goal.returns
returns c chunks image accepted = (packed_chunks _ image accepted, packed_layout _ image accepted)
