-- The loop of `put_entries` keeps its invariant: what is written from here on completes the lines.
use Rattle.file_parts.proofs.AllWords.{Bool, Writing, Writes}
use Rattle.file_parts.proofs.EntryLines.{rest_lines}
use Rattle.file_parts.proofs.text.put_entries.Given as goal

abbrev pub invariant-loop-index : goal.invariant-loop-index
invariant-loop-index g l = (new : Writing g.row.W.Denot) (ok : Bool)
    → Writes g.W.Write.contents l.out new (rest_lines l.file l.ids l.index) ok
    → Writes g.W.Write.contents l.fn.out new (rest_lines l.file l.ids 0) ok
