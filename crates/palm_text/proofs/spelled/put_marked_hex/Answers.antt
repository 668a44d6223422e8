use Rattle.std.specs.Prelude.{codes, is_ok}
use Rattle.hex.specs.Hex.{encode_lower}
use Rattle.palm_text.proofs.Parts.{then, stops}
use Rattle.palm_text.proofs.spelled.put_marked_hex.Goals as goal

pub returns-in-Ok : goal.returns-in-Ok
returns-in-Ok g c =
    then g.W.Write.contents c.args.out.now c.put_all.new.out c.put_hex.new.out (codes "x:") (encode_lower c.args.bytes.now) (is_ok c.put_hex.result) c.in-Ok.ensures c.put_hex.ensures

pub returns-in-Err : goal.returns-in-Err
returns-in-Err g c =
    stops g.W.Write.contents c.args.out.now c.put_all.new.out (codes "x:") (encode_lower c.args.bytes.now) c.in-Err.ensures
