use Rattle.std.proofs.Common.{◌≡◌, [], true, false, arith}
use Rattle.std.proofs.lemmas.Grind.{common_steps}
use Rattle.palm_text.proofs.Hexes.{then_turn, stops_turn, no_turn}
use Rattle.palm_text.proofs.pieces.put_hex.Goals as goal

pub returns-in-Err : goal.returns-in-Err
returns-in-Err g c =
    c.loop-rest.invariant c.put_hex_turn.new.out false (stops_turn g.W.Write.contents c.loop-rest.out c.put_hex_turn.new.out c.min.result c.loop-rest.rest.now _ c.split_at.ensures.front c.in-Err.ensures)

pub loop-rest-preserved : goal.loop-rest-preserved
loop-rest-preserved g c = λ new ok w.
    c.loop-rest.invariant new ok (then_turn g.W.Write.contents c.loop-rest.out c.put_hex_turn.new.out new c.min.result c.loop-rest.rest.now _ _ ok c.split_at.ensures.front c.split_at.ensures.back c.in-Ok.ensures w)

pub returns : goal.returns
returns g c =
    let none_left : c.loop-rest.rest.now ≡ [] = grind (arith, common_steps) in
    c.loop-rest.invariant c.loop-rest.out true (no_turn g.W.Write.contents c.loop-rest.out c.loop-rest.rest.now none_left)
