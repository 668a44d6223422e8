use Rattle.std.proofs.Common.{arith}
use Rattle.master_table.proofs.RowLaws.{row_bounds, row_index, row_no_index}
use Rattle.master_table.proofs.slots.Row.number.Goals as goal

pub overflow_add-result : goal.overflow_add-result
overflow_add-result c =
    let b = row_bounds c.args.region.now.bytes c.args.self c.requires.tiled c.requires.row in
    let numbers = b.numbers in
    let small = b.small in
    let below = c.if-index-self.false in
    omega arith

pub returns-then-index-self-clause-none : goal.returns-then-index-self-clause-none
returns-then-index-self-clause-none c = row_no_index c.args.self c.args.slot c.distance.result c.words-index.result c.distance.ensures.after c.words-index.ensures.whole c.if-index-self.true

pub returns-clause-some : goal.returns-clause-some
returns-clause-some c =
    row_index c.args.region.now.bytes c.args.self c.args.slot c.distance.result c.words-index.result c.requires.tiled c.requires.row c.distance.ensures.after c.distance.ensures.wraps c.words-index.ensures.whole c.words-index.ensures.broken c.if-index-self.false
