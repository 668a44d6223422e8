use Rattle.std.proofs.Common.{arith, refl}
use Rattle.master_table.proofs.RowLaws.{row_bounds, row_at}
use Rattle.master_table.proofs.slots.Row.slot.Goals as goal

pub overflow_mul-result : goal.overflow_mul-result
overflow_mul-result c =
    let b = row_bounds c.args.region.now.bytes c.args.self c.requires.tiled c.requires.row in
    let ends = b.ends in
    let small = b.small in
    let below = c.requires.below in
    omega arith

pub overflow_add-result : goal.overflow_add-result
overflow_add-result c =
    let b = row_bounds c.args.region.now.bytes c.args.self c.requires.tiled c.requires.row in
    let ends = b.ends in
    let small = b.small in
    let below = c.requires.below in
    omega arith

pub returns : goal.returns
returns c = row_at c.args.region.now.bytes c.args.self _ c.args.number c.requires.row c.requires.from c.requires.below refl
