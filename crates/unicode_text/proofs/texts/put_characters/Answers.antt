use Rattle.std.proofs.Common.{◌≡◌, [], drop, true, false, arith}
use Rattle.std.proofs.lemmas.Grind.{common_steps}
use Rattle.palm_text.proofs.Parts.{nothing}
use Rattle.unicode_text.specs.Texts.{character}
use Rattle.palm_text.proofs.Sequences.{then_text, stops_text}
use Rattle.unicode_text.proofs.texts.put_characters.Goals as goal

pub loop-byte-preserved : goal.loop-byte-preserved
loop-byte-preserved g c = λ new ok w.
    c.loop-byte.invariant new ok (then_text character g.W.Write.contents c.loop-byte.out c.put_character.new.out new c.args.bytes.now c.loop-byte.byte-index _ ok c.loop-byte-test.true c.in-Ok.ensures w)

pub returns-in-Err : goal.returns-in-Err
returns-in-Err g c =
    c.loop-byte.invariant c.put_character.new.out false (stops_text character g.W.Write.contents c.loop-byte.out c.put_character.new.out c.args.bytes.now c.loop-byte.byte-index _ c.loop-byte-test.true c.in-Err.ensures)

pub returns : goal.returns
returns g c =
    let none_left : drop c.loop-byte.byte-index c.args.bytes.now ≡ [] = grind (arith, common_steps) in
    c.loop-byte.invariant c.loop-byte.out true (rw none_left (nothing g.W.Write.contents c.loop-byte.out))
