use Rattle.std.proofs.Common.{true, false}
use Rattle.std.specs.Prelude.{codes}
use Rattle.store_commands.proofs.Lines.{then_copy, stops_copy, no_copy}
use Rattle.store_commands.proofs.imports.put_replies.Goals as goal

pub loop-done-preserved : goal.loop-done-preserved
loop-done-preserved g c = λ new ok w.
    c.loop-done.invariant new ok (then_copy g.V.Write.contents (codes "ok\n") c.loop-done.out c.put_all.new.out new c.args.count c.loop-done.done ok c.loop-done-test.true c.in-Ok.ensures w)

pub returns-in-Err : goal.returns-in-Err
returns-in-Err g c =
    c.loop-done.invariant c.put_all.new.out false (stops_copy g.V.Write.contents (codes "ok\n") c.loop-done.out c.put_all.new.out c.args.count c.loop-done.done c.loop-done-test.true c.in-Err.ensures)

pub returns : goal.returns
returns g c =
    c.loop-done.invariant c.loop-done.out true (no_copy g.V.Write.contents (codes "ok\n") c.loop-done.out c.args.count c.loop-done.done c.loop-done-test.false)
