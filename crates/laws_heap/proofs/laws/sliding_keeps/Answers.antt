use Rattle.laws_heap.proofs.SlidImages.{slid_alike}
use Rattle.laws_heap.proofs.laws.sliding_keeps.Goals as goal

pub returns : goal.returns
returns c = slid_alike
