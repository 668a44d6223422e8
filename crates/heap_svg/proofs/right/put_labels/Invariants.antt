-- The loop of `put_labels` keeps its invariant: whatever is written from here on completes the
-- labels.
use Rattle.heap_svg.proofs.Words.{Bool, Writing, Writes, label_text, labels_text, rest_lines}
use Rattle.heap_svg.proofs.right.put_labels.Given as goal

abbrev pub invariant-loop-row : goal.invariant-loop-row
invariant-loop-row g l = (new : Writing g.row.W.Denot) (ok : Bool)
    → Writes g.W.Write.contents l.out new (rest_lines (label_text l.line) l.rows l.row) ok
    → Writes g.W.Write.contents l.fn.out new (labels_text l.line l.rows) ok
