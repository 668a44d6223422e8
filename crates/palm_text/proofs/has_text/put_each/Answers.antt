use Rattle.std.proofs.Common.{◌≡◌, [], drop, true, false, subst, arith}
use Rattle.std.proofs.lemmas.Grind.{common_steps}
use Rattle.palm_text.specs.Counted.{Writes}
use Rattle.palm_text.proofs.Parts.{nothing}
use Rattle.palm_text.proofs.Sequences.{then_text, stops_text}
use Rattle.palm_text.proofs.has_text.put_each.Goals as goal

pub loop-value-preserved : goal.loop-value-preserved
loop-value-preserved g c = λ new ok w.
    c.loop-value.invariant new ok (then_text g.T.HasText.text g.W.Write.contents c.loop-value.out c.put_to.new.out new c.args.values.now c.loop-value.value-index c.value-item.result ok c.loop-value-test.true
    (subst (λ (value : g.row.T.Denot). Writes g.W.Write.contents c.loop-value.out c.put_to.new.out (g.T.HasText.text value) true) c.value-item.is c.in-Ok.ensures) w)

pub returns-in-Err : goal.returns-in-Err
returns-in-Err g c =
    c.loop-value.invariant c.put_to.new.out false (stops_text g.T.HasText.text g.W.Write.contents c.loop-value.out c.put_to.new.out c.args.values.now c.loop-value.value-index c.value-item.result c.loop-value-test.true
    (subst (λ (value : g.row.T.Denot). Writes g.W.Write.contents c.loop-value.out c.put_to.new.out (g.T.HasText.text value) false) c.value-item.is c.in-Err.ensures))

pub returns : goal.returns
returns g c =
    let none_left : drop c.loop-value.value-index c.args.values.now ≡ [] = grind (arith, common_steps) in
    c.loop-value.invariant c.loop-value.out true (rw none_left (nothing g.W.Write.contents c.loop-value.out))
