use Rattle.std.proofs.Common.{◌≡◌, [], drop, true, false, subst, arith}
use Rattle.std.proofs.lemmas.Grind.{common_steps}
use Rattle.palm_text.specs.Counted.{Writes}
use Rattle.palm_text.proofs.Parts.{nothing}
use Rattle.palm_text.proofs.Sequences.{then_text, stops_text}
use Rattle.file_listing.specs.declared.rows.Row.{Row}
use Rattle.file_listing.proofs.walk.put_rows.Goals as goal

pub loop-row-preserved : goal.loop-row-preserved
loop-row-preserved g c = λ new ok w.
    c.loop-row.invariant new ok (then_text (g.N.Notation.row_text c.args.notation.now) g.W.Write.contents c.loop-row.out c.put_row.new.out new c.args.rows.now c.loop-row.row-index c.row-item.result ok c.loop-row-test.true
    (subst (λ (row : Row). Writes g.W.Write.contents c.loop-row.out c.put_row.new.out (g.N.Notation.row_text c.args.notation.now row) true) c.row-item.is c.in-Ok.ensures) w)

pub returns-in-Err : goal.returns-in-Err
returns-in-Err g c =
    c.loop-row.invariant c.put_row.new.out false (stops_text (g.N.Notation.row_text c.args.notation.now) g.W.Write.contents c.loop-row.out c.put_row.new.out c.args.rows.now c.loop-row.row-index c.row-item.result c.loop-row-test.true
    (subst (λ (row : Row). Writes g.W.Write.contents c.loop-row.out c.put_row.new.out (g.N.Notation.row_text c.args.notation.now row) false) c.row-item.is c.in-Err.ensures))

pub returns : goal.returns
returns g c =
    let none_left : drop c.loop-row.row-index c.args.rows.now ≡ [] = grind (arith, common_steps) in
    c.loop-row.invariant c.loop-row.out true (rw none_left (nothing g.W.Write.contents c.loop-row.out))
