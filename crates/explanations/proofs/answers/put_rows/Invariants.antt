use Rattle.std.proofs.Common.{drop, Bool}
use Rattle.palm_text.specs.Counted.{Writing, Writes}
use Rattle.explanations.specs.Explained.{answers, rows_read}
use Rattle.explanations.proofs.answers.put_rows.Given as goal

-- whatever is written from here on completes the text
abbrev pub invariant-loop-row : goal.invariant-loop-row
invariant-loop-row g l = (new : Writing g.row.V.Denot) (ok : Bool) → Writes g.V.Write.contents l.out new (answers l.word (rows_read (drop l.row-index l.rows))) ok → Writes g.V.Write.contents l.fn.out new (answers l.word (rows_read l.rows)) ok
