use Rattle.std.proofs.Common.{refl}
use Rattle.master_table.proofs.RowLaws.{first_row}
use Rattle.master_table.proofs.slots.Row.of.Goals as goal

pub returns-clause-row : goal.returns-clause-row
returns-clause-row c = first_row c.args.region.now.bytes _ c.requires.tiled refl c.slot_count.ensures refl c.first_next.ensures refl
