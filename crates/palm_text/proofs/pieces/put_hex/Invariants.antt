use Rattle.std.proofs.Common.{Bool, length}
use Rattle.hex.specs.Hex.{encode_lower}
use Rattle.palm_text.specs.Counted.{Writing, Writes}
use Rattle.palm_text.proofs.pieces.put_hex.Given as goal

-- whatever is written from here on completes the text
abbrev pub invariant-loop-rest : goal.invariant-loop-rest
invariant-loop-rest g l = (new : Writing g.row.W.Denot) (ok : Bool) → Writes g.W.Write.contents l.out new (encode_lower l.rest) ok → Writes g.W.Write.contents l.fn.out new (encode_lower l.bytes) ok

abbrev pub decreases-loop-rest : goal.decreases-loop-rest
decreases-loop-rest g l = length l.rest
