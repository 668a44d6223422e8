use Rattle.std.proofs.Common.{true, false}
use Rattle.store_commands.specs.Databases.{listed_row_line}
use Rattle.store_commands.proofs.Lines.{then_line, stops_line, no_line}
use Rattle.store_commands.proofs.databases.put_rows.Goals as goal

pub loop-index-preserved : goal.loop-index-preserved
loop-index-preserved g c = λ new ok w.
    c.loop-index.invariant new ok (then_line g.W.Write.contents listed_row_line c.loop-index.out c.put_row.new.out new c.args.rows.now c.loop-index.index c.index-rows-index.result ok c.loop-index-test.true c.index-rows-index.is c.in-Ok.ensures w)

pub returns-in-Err : goal.returns-in-Err
returns-in-Err g c =
    c.loop-index.invariant c.put_row.new.out false (stops_line g.W.Write.contents listed_row_line c.loop-index.out c.put_row.new.out c.args.rows.now c.loop-index.index c.index-rows-index.result c.loop-index-test.true c.index-rows-index.is c.in-Err.ensures)

pub returns : goal.returns
returns g c =
    c.loop-index.invariant c.loop-index.out true (no_line g.W.Write.contents listed_row_line c.loop-index.out c.args.rows.now c.loop-index.index c.loop-index-test.false)
