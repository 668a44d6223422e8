-- The loop of `put_escaped` keeps its invariant: whatever is written from here on completes the
-- name.
use Rattle.heap_svg.proofs.Words.{Bool, drop, flat_map, Writing, Writes, escaped_byte, escaped}
use Rattle.heap_svg.proofs.legend.put_escaped.Given as goal

abbrev pub invariant-loop-byte : goal.invariant-loop-byte
invariant-loop-byte g l = (new : Writing g.row.W.Denot) (ok : Bool)
    → Writes g.W.Write.contents l.out new (flat_map escaped_byte (drop l.byte-index l.name)) ok
    → Writes g.W.Write.contents l.fn.out new (escaped l.name) ok
