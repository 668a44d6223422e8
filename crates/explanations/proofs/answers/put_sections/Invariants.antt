use Rattle.std.proofs.Common.{drop, Bool}
use Rattle.palm_text.specs.Counted.{Writing, Writes}
use Rattle.explanations.specs.Explained.{answers, rows_of_sections}
use Rattle.explanations.proofs.answers.put_sections.Given as goal

-- whatever is written from here on completes the text
abbrev pub invariant-loop-section : goal.invariant-loop-section
invariant-loop-section g l = (new : Writing g.row.V.Denot) (ok : Bool) → Writes g.V.Write.contents l.out new (answers l.word (rows_of_sections (drop l.section-index l.sections))) ok → Writes g.V.Write.contents l.fn.out new (answers l.word (rows_of_sections l.sections)) ok
