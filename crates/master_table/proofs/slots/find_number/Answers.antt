use Rattle.std.proofs.Common.{sym}
use Rattle.master_table.proofs.RowLaws.{searched_first, searched_more, last_number}
use Rattle.master_table.proofs.slots.find_number.Goals as goal

pub loop-row-init : goal.loop-row-init
loop-row-init c = searched_first c.args.region.now.bytes c.of-row.result c.args.slot c.requires.tiled c.of-row.ensures.row c.of-row.ensures.start

pub loop-row-preserved : goal.loop-row-preserved
loop-row-preserved c = searched_more c.args.region.now.bytes c.loop-row.row c.behind-row.result c.args.slot c.loop-row.invariant c.in_default.ensures.none c.behind-row.ensures

pub returns-clause-none : goal.returns-clause-none
returns-clause-none c = last_number c.args.region.now.bytes c.loop-row.row c.args.slot c.number-2.result c.loop-row.invariant (sym c.loop-row-test.ensures) c.number-2.ensures.none
