use Rattle.std.proofs.Common.{◌≡◌, drop}
use Rattle.explanations.specs.Explained.{is_among, rows_read}
use Rattle.explanations.proofs.answers.is_among.Given as goal

-- the word is none of the rows so far
abbrev pub invariant-loop-row : goal.invariant-loop-row
invariant-loop-row l = is_among l.word (rows_read l.rows) ≡ is_among l.word (rows_read (drop l.row-index l.rows))
