use Rattle.std.specs.Prelude.{codes, is_ok}
use Rattle.palm_text.specs.Pieces.{piece_text}
use Rattle.palm_text.proofs.Parts.{then}
use Rattle.script_calls.proofs.replies.WordHasText.put_to.Goals as goal

pub returns : goal.returns
returns g c = then g.W.Write.contents c.args.out.now c.put_all.new.out c.put_to.new.out (codes " ") (piece_text c.args.self.now.0) (is_ok c.put_to.result) c.in_ok-put_all.ensures c.put_to.ensures
