use Rattle.std.proofs.Common.{◌≡◌, [], drop, true, false, arith}
use Rattle.std.proofs.lemmas.Grind.{common_steps}
use Rattle.palm_text.proofs.Parts.{nothing}
use Rattle.explanations.proofs.Rows.{then_section, stops_section}
use Rattle.explanations.proofs.answers.put_sections.Goals as goal

pub loop-section-preserved : goal.loop-section-preserved
loop-section-preserved g c = λ new ok w.
    c.loop-section.invariant new ok (then_section g.V.Write.contents c.loop-section.out c.put_rows.new.out new c.args.word.now c.args.sections.now c.loop-section.section-index _ ok c.loop-section-test.true (rw c.rows_of.ensures at c.in-Ok.ensures) w)

pub returns-in-Err : goal.returns-in-Err
returns-in-Err g c =
    c.loop-section.invariant c.put_rows.new.out false (stops_section g.V.Write.contents c.loop-section.out c.put_rows.new.out c.args.word.now c.args.sections.now c.loop-section.section-index _ c.loop-section-test.true (rw c.rows_of.ensures at c.in-Err.ensures))

pub returns : goal.returns
returns g c =
    let none_left : drop c.loop-section.section-index c.args.sections.now ≡ [] = grind (arith, common_steps) in
    c.loop-section.invariant c.loop-section.out true (rw none_left (nothing g.V.Write.contents c.loop-section.out))
