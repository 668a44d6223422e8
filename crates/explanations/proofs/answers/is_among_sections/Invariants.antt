use Rattle.std.proofs.Common.{◌≡◌, drop}
use Rattle.explanations.specs.Explained.{is_among, rows_of_sections}
use Rattle.explanations.proofs.answers.is_among_sections.Given as goal

-- the word is in none of the sections so far
abbrev pub invariant-loop-section : goal.invariant-loop-section
invariant-loop-section l = is_among l.word (rows_of_sections l.sections) ≡ is_among l.word (rows_of_sections (drop l.section-index l.sections))
