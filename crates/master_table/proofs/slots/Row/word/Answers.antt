use Rattle.std.proofs.Common.{◌∙◌, ap, arith}
use Rattle.heap_model.specs.Bytes.{u32_at}
use Rattle.laws_heap.proofs.Slots.{stands_slot, same_slot, slot_within}
use Rattle.laws_heap.proofs.LentBodies.{tiled_tables}
use Rattle.master_table.proofs.RowLaws.{row_slots}
use Rattle.master_table.proofs.slots.Row.word.Goals as goal

pub get_u32-requires : goal.get_u32-requires
get_u32-requires c =
    let image = c.args.region.now.bytes in
    let below = c.requires.below in
    slot_within c.args.region.now _ (tiled_tables c.args.region.now c.requires.tiled.0 c.requires.tiled.1 c.requires.lent)
    (stands_slot image _ _ (row_slots image c.args.self c.args.index c.requires.row (omega arith)))

pub returns : goal.returns
returns c = λ slot stands.
    let image = c.args.region.now.bytes in
    let below = c.requires.below in
    c.get_u32.ensures ∙ ap (u32_at image) (same_slot image _ slot _ (row_slots image c.args.self c.args.index c.requires.row (omega arith)) stands)
