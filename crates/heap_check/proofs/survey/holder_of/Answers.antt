-- `holder_of` reads a slot that lies within the image, by the laws of laws_heap.
use Rattle.laws_heap.proofs.Slots.{stands_slot, slot_within}
use Rattle.heap_check.proofs.survey.holder_of.Goals as goal

pub get_u32-requires : goal.get_u32-requires
get_u32-requires c =
    let image = c.args.region.now.bytes in
    slot_within c.args.region.now c.args.slot c.requires.has_table (stands_slot image c.args.slot
    c.in_ok-number.number (c.in_ok-number.ensures.some image c.requires.table))
