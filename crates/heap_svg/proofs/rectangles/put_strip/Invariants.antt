-- The loop of `put_strip` keeps its invariant: whatever is written from here on completes the
-- strip.
use Rattle.heap_svg.proofs.Words.{Bool, Writing, Writes, strip_part, strip_rows, strip_text, rest_lines}
use Rattle.heap_svg.proofs.rectangles.put_strip.Given as goal

abbrev pub invariant-loop-i : goal.invariant-loop-i
invariant-loop-i g l = (new : Writing g.row.W.Denot) (ok : Bool) → Writes g.W.Write.contents l.out
    new (rest_lines (strip_part l.line l.strip) (strip_rows l.line l.strip) l.i) ok
    → Writes g.W.Write.contents l.fn.out new (strip_text l.line l.strip) ok
