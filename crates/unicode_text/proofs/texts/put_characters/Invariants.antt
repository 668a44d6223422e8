use Rattle.std.proofs.Common.{drop, Bool}
use Rattle.palm_text.specs.Counted.{Writing, Writes}
use Rattle.unicode_text.specs.Texts.{characters}
use Rattle.unicode_text.proofs.texts.put_characters.Given as goal

-- whatever is written from here on completes the text
abbrev pub invariant-loop-byte : goal.invariant-loop-byte
invariant-loop-byte g l = (new : Writing g.row.W.Denot) (ok : Bool) → Writes g.W.Write.contents l.out new (characters (drop l.byte-index l.bytes)) ok → Writes g.W.Write.contents l.fn.out new (characters l.bytes) ok
