-- The loop of `put_strips` keeps its invariant: whatever is written from here on completes the
-- strips.
use Rattle.heap_svg.proofs.Words.{Bool, drop, flat_map, Writing, Writes, strip_text, strips_text}
use Rattle.heap_svg.proofs.rectangles.put_strips.Given as goal

abbrev pub invariant-loop-strip : goal.invariant-loop-strip
invariant-loop-strip g l = (new : Writing g.row.W.Denot) (ok : Bool) → Writes g.W.Write.contents
    l.out new (flat_map (strip_text l.line) (drop l.strip-index l.strips)) ok
    → Writes g.W.Write.contents l.fn.out new (strips_text l.line l.strips) ok
