use Rattle.std.proofs.Common.{◌∙◌, arith}
use Rattle.master_table.proofs.RowLaws.{row_small}
use Rattle.master_table.proofs.table.empty_slot.Goals as goal

pub returns-then-word-ne0-clause-none : goal.returns-then-word-ne0-clause-none
returns-then-word-ne0-clause-none c = λ slot stands empty. c.if-word-ne0.true (c.word.ensures slot stands ∙ empty)

pub overflow_add-number : goal.overflow_add-number
overflow_add-number c =
    let small = row_small c.args.region.now.bytes c.args.row c.requires.tiled c.requires.row in
    let below = c.requires.below in
    omega arith
