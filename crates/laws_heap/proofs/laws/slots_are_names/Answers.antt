use Rattle.laws_heap.proofs.SlidImages.{free_slots_held}
use Rattle.laws_heap.proofs.laws.slots_are_names.Goals as goal

pub returns : goal.returns
returns c = free_slots_held
