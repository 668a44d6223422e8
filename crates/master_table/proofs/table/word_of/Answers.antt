use Rattle.laws_heap.proofs.Slots.{slot_within}
use Rattle.master_table.proofs.table.word_of.Goals as goal

pub get_u32-requires : goal.get_u32-requires
get_u32-requires c = slot_within c.args.region.now c.args.slot c.requires.table c.requires.slot
