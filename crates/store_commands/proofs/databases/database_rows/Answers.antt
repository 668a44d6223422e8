use Rattle.std.proofs.Common.{ap, ◌∙◌, map, arith}
use Rattle.std.proofs.lemmas.List.{take_all}
use Rattle.heap_model.specs.Store.{store_of, database_under}
use Rattle.store_commands.specs.Databases.{listed_row}
use Rattle.store_commands.proofs.Lines.{made_more}
use Rattle.store_commands.proofs.databases.database_rows.Goals as goal

pub loop-index-preserved : goal.loop-index-preserved
loop-index-preserved g c =
    rw c.in_ok-push.ensures.items (made_more (listed_row (store_of c.args.store.now.bytes)) (store_of c.args.store.now.bytes).databases c.loop-index.rows.items c.in_ok-row.row c.loop-index.index (database_under c.args.store.now.bytes c.nth_of.result.0) c.loop-index.invariant c.nth_of.ensures.is c.in_ok-row.ensures.row)

pub returns-clause-rows : goal.returns-clause-rows
returns-clause-rows g c =
    let all = take_all c.loop-index.index (store_of c.args.store.now.bytes).databases (omega (arith, c.count_of-index-end.ensures, c.loop-index-test.false)) in
    c.loop-index.invariant ∙ ap (map (listed_row (store_of c.args.store.now.bytes))) all
