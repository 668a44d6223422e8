use Rattle.std.proofs.Common.{◌≡◌, [], drop, true, false, arith}
use Rattle.std.proofs.lemmas.Grind.{common_steps}
use Rattle.palm_text.proofs.Parts.{nothing}
use Rattle.explanations.proofs.Rows.{then_row, stops_row}
use Rattle.explanations.proofs.answers.put_rows.Goals as goal

pub loop-row-preserved : goal.loop-row-preserved
loop-row-preserved g c = λ new ok w.
    c.loop-row.invariant new ok (then_row g.V.Write.contents c.loop-row.out c.put_asked.new.out new c.args.word.now c.args.rows.now c.loop-row.row-index _ ok c.loop-row-test.true c.in-Ok.ensures w)

pub returns-in-Err : goal.returns-in-Err
returns-in-Err g c =
    c.loop-row.invariant c.put_asked.new.out false (stops_row g.V.Write.contents c.loop-row.out c.put_asked.new.out c.args.word.now c.args.rows.now c.loop-row.row-index _ c.loop-row-test.true c.in-Err.ensures)

pub returns : goal.returns
returns g c =
    let none_left : drop c.loop-row.row-index c.args.rows.now ≡ [] = grind (arith, common_steps) in
    c.loop-row.invariant c.loop-row.out true (rw none_left (nothing g.V.Write.contents c.loop-row.out))
