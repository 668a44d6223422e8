use Rattle.std.proofs.Common.{drop, Bool}
use Rattle.palm_text.specs.Counted.{Writing, Writes}
use Rattle.unicode_text.specs.Strings.{string_characters}
use Rattle.unicode_text.proofs.strings.put_characters.Given as goal

-- whatever is written from here on completes the text
abbrev pub invariant-loop-byte : goal.invariant-loop-byte
invariant-loop-byte g l = (new : Writing g.row.W.Denot) (ok : Bool) → Writes g.W.Write.contents l.out new (string_characters l.coding (drop l.byte-index l.bytes)) ok → Writes g.W.Write.contents l.fn.out new (string_characters l.coding l.bytes) ok
