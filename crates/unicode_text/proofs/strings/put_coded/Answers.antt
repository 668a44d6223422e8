use Rattle.std.specs.Prelude.{codes, is_ok}
use Rattle.palm_text.proofs.Parts.{then}
use Rattle.unicode_text.specs.Strings.{closed_string}
use Rattle.unicode_text.proofs.strings.put_coded.Goals as goal

pub returns : goal.returns
returns g c =
    then g.W.Write.contents c.args.out.now c.put_all.new.out c.put_closed.new.out (codes "\"") (closed_string c.args.coding c.args.bytes.now) (is_ok c.put_closed.result) c.in_ok-put_all.ensures c.put_closed.ensures
