use Rattle.std.proofs.Common.{arith}
use Rattle.master_table.proofs.TableLaws.{first_empty, used_next}
use Rattle.master_table.proofs.RowLaws.{row_bounds}
use Rattle.master_table.proofs.table.empty_in_row.Goals as goal

pub returns-in-Some-clause-some : goal.returns-in-Some-clause-some
returns-in-Some-clause-some c = first_empty c.args.region.now.bytes _ c.in-Some.slot c.in-Some.ensures.some c.loop-index.invariant

pub loop-index-preserved : goal.loop-index-preserved
loop-index-preserved c = used_next c.args.region.now.bytes _ _ (let total = (row_bounds c.args.region.now.bytes c.args.row c.requires.tiled c.requires.row).total in omega arith) c.loop-index.invariant c.in_default.ensures.none
