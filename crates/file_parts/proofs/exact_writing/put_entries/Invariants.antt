-- The loop of `put_entries` keeps its invariant: what is written from here on completes the
-- entries.
use Rattle.file_parts.proofs.AllWords.{Bool, drop, flat_map, entry_bytes, Writing, Writes, exact_placed}
use Rattle.file_parts.proofs.exact_writing.put_entries.Given as goal

abbrev pub invariant-loop-index : goal.invariant-loop-index
invariant-loop-index g l = (new : Writing g.row.W.Denot) (ok : Bool)
    → Writes g.W.Write.contents l.out new
    (flat_map entry_bytes (drop l.index (exact_placed (g.S.ExactSource.exact l.source)).entries)) ok
    → Writes g.W.Write.contents l.fn.out new
    (flat_map entry_bytes (exact_placed (g.S.ExactSource.exact l.source)).entries) ok
