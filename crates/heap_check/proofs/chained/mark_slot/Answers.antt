-- `mark_slot` reads a slot that lies within the image, by the laws of laws_heap.
use Rattle.laws_heap.proofs.Slots.{slot_within}
use Rattle.heap_check.proofs.chained.mark_slot.Goals as goal

pub get_u32-requires : goal.get_u32-requires
get_u32-requires c = slot_within c.args.region.now c.args.slot c.requires.has_table c.requires.slot
