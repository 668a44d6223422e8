use Rattle.std.proofs.Common.{true, false}
use Rattle.store_commands.specs.DatabasesJson.{next_json}
use Rattle.store_commands.proofs.Lines.{then_line, stops_line, no_line}
use Rattle.store_commands.proofs.databases_json.put_more.Goals as goal

pub loop-row-preserved : goal.loop-row-preserved
loop-row-preserved g c = λ new ok w.
    c.loop-row.invariant new ok (then_line g.W.Write.contents next_json c.loop-row.out c.put_next.new.out new c.args.rows.now c.loop-row.row-index c.row-item.result ok c.loop-row-test.true c.row-item.is c.in-Ok.ensures w)

pub returns-in-Err : goal.returns-in-Err
returns-in-Err g c =
    c.loop-row.invariant c.put_next.new.out false (stops_line g.W.Write.contents next_json c.loop-row.out c.put_next.new.out c.args.rows.now c.loop-row.row-index c.row-item.result c.loop-row-test.true c.row-item.is c.in-Err.ensures)

pub returns : goal.returns
returns g c =
    c.loop-row.invariant c.loop-row.out true (no_line g.W.Write.contents next_json c.loop-row.out c.args.rows.now c.loop-row.row-index c.loop-row-test.false)
