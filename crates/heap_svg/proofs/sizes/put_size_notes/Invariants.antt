-- The loop of `put_size_notes` keeps its invariant: whatever is written from here on completes the
-- sizes.
use Rattle.heap_svg.proofs.Words.{Bool, Writing, Writes, rest_lines, size_note_at, size_notes}
use Rattle.heap_svg.proofs.sizes.put_size_notes.Given as goal

abbrev pub invariant-loop-index : goal.invariant-loop-index
invariant-loop-index g l = (new : Writing g.row.W.Denot) (ok : Bool)
    → Writes g.W.Write.contents l.out new (rest_lines (size_note_at l.top l.pieces) 21 l.index) ok
    → Writes g.W.Write.contents l.fn.out new (size_notes l.top l.pieces) ok
