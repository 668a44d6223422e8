use Rattle.laws_heap.proofs.Meanings.{heap_holds, holds_one}
use Rattle.laws_heap.proofs.laws.holds_one_map.Goals as goal

pub returns : goal.returns
returns c image accepted = (heap_holds image accepted, holds_one image)
