use Rattle.std.proofs.Common.{sym}
use Rattle.master_table.proofs.RowLaws.{last_empty}
use Rattle.master_table.proofs.table.first_empty_slot.Goals as goal

pub returns-clause-none : goal.returns-clause-none
returns-clause-none c = last_empty c.args.region.now.bytes c.loop-row.row c.loop-row.at c.empty_in_row-2.result c.loop-row.invariant.row (sym c.loop-row-test.ensures) c.empty_in_row-2.ensures.some c.empty_in_row-2.ensures.none
