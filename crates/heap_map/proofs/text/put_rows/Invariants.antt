-- The loop of `put_rows` keeps its invariant: whatever is written from here on completes the rows.
use Rattle.heap_map.proofs.Laws.{Bool, length, Writing, Writes, row_line, row_count, row_lines, rest_lines}
use Rattle.heap_map.proofs.text.put_rows.Given as goal

abbrev pub invariant-loop-row : goal.invariant-loop-row
invariant-loop-row g l = (new : Writing g.row.W.Denot) (ok : Bool) → Writes g.W.Write.contents l.out
    new (rest_lines (row_line l.start l.size l.marks) (row_count (length l.marks)) l.row) ok
    → Writes g.W.Write.contents l.fn.out new (row_lines l.start l.size l.marks) ok
