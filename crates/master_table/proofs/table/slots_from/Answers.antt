use Rattle.std.proofs.Common.{◌∙◌}
use Rattle.master_table.proofs.RowLaws.{last_end, row_small}
use Rattle.master_table.proofs.table.slots_from.Goals as goal

pub end-requires : goal.end-requires
end-requires c = row_small c.args.region.now.bytes c.last_row.result c.requires.tiled c.last_row.ensures.row

pub returns : goal.returns
returns c = c.end.ensures ∙ last_end c.args.region.now.bytes c.last_row.result c.last_row.ensures.row c.last_row.ensures.last
