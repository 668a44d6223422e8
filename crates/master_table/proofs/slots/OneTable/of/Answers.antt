use Rattle.master_table.proofs.slots.OneTable.of.Goals as goal

pub returns : goal.returns
returns c = (c.requires.plain, c.slot_count.ensures)
