-- The loop of `put_rights` keeps its invariant: whatever is written from here on completes the
-- rooms.
use Rattle.heap_svg.proofs.Words.{Bool, Writing, Writes, rest_lines, right_of, rights_text}
use Rattle.heap_svg.proofs.right.put_rights.Given as goal

abbrev pub invariant-loop-row : goal.invariant-loop-row
invariant-loop-row g l = (new : Writing g.row.W.Denot) (ok : Bool)
    → Writes g.W.Write.contents l.out new (rest_lines (right_of l.line l.rooms) l.rows l.row) ok
    → Writes g.W.Write.contents l.fn.out new (rights_text l.line l.rooms l.rows) ok
