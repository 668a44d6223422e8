use Rattle.std.proofs.Common.{sym, subst, ◌≡◌, ◌∙◌, ◌+◌, ℕ, arith}
use Rattle.master_table.specs.Table.{empty_before}
use Rattle.master_table.proofs.CountLaws.{counted_some, counted_none, empty_few}
use Rattle.master_table.proofs.RowLaws.{row_bounds, row_small}
use Rattle.master_table.proofs.table.count_empty.Goals as goal
use Rattle.master_table.proofs.table.count_empty.Goals.{then-is_some, else-is_some}

pub overflow_add-count : goal.overflow_add-count
overflow_add-count c =
    let small = row_small c.args.region.now.bytes c.args.row c.requires.tiled c.requires.row in
    let few = empty_few c.args.region.now.bytes (c.args.row.before + c.loop-index.index) in
    let is = c.loop-index.invariant in
    omega arith

pub loop-index-preserved : goal.loop-index-preserved
loop-index-preserved c =
    let image = c.args.region.now.bytes in
    let k : ℕ = c.args.row.before + c.loop-index.index in
    let e : k + 1 ≡ c.args.row.before + (c.loop-index.index + 1) = omega arith in
    let found = c.empty_slot.result in
    let counted = c.loop-index.invariant in
    let total = (row_bounds image c.args.row c.requires.tiled c.requires.row).total in
    subst (λ (n : ℕ). c.if-is_some.count ≡ empty_before image n) e (elim c.if-is_some.branch [
      | then-is_some w ↦ w.count-is ∙ counted_some image k c.loop-index.count found c.empty_slot.ensures.some (sym c.is_some.ensures ∙ w.if-is_some.true) counted
      | else-is_some w ↦ w.count-is ∙ counted_none image k c.loop-index.count found (omega arith) c.empty_slot.ensures.none (sym c.is_some.ensures ∙ w.if-is_some.false) counted
    ])
