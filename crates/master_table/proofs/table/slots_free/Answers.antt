use Rattle.std.proofs.Common.{sym, ap, arith, ◌∙◌}
use Rattle.std.proofs.lemmas.Bool.{eqb-true}
use Rattle.master_table.specs.Table.{empty_before}
use Rattle.master_table.proofs.CountLaws.{empty_all, none_before}
use Rattle.master_table.proofs.RowLaws.{last_end}
use Rattle.master_table.proofs.table.slots_free.Goals as goal

pub count_empty-count-requires-clause-before : goal.count_empty-count-requires-clause-before
count_empty-count-requires-clause-before c = sym (ap (empty_before c.args.region.now.bytes) c.of-row.ensures.start ∙ none_before c.args.region.now.bytes)

pub returns : goal.returns
returns c =
    let end = last_end c.args.region.now.bytes c.loop-row.row c.loop-row.invariant.row (eqb-true c.loop-row.row.next 0 (sym c.loop-row-test.ensures)) in
    c.loop-row.invariant.counted ∙ empty_all c.args.region.now.bytes _ (omega (arith, end))
