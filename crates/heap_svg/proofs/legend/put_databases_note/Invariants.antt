-- The loop of `put_databases_note` keeps its invariant: whatever is written from here on completes
-- the lines.
use Rattle.heap_svg.proofs.Words.{Bool, Writing, Writes, listed_count, database_at, databases_note, rest_lines}
use Rattle.heap_svg.proofs.legend.put_databases_note.Given as goal

abbrev pub invariant-loop-db : goal.invariant-loop-db
invariant-loop-db g l = (new : Writing g.row.W.Denot) (ok : Bool) → Writes g.W.Write.contents l.out
    new (rest_lines (database_at l.region.bytes l.rows) (listed_count l.region.bytes) l.db) ok
    → Writes g.W.Write.contents l.fn.out new (databases_note l.region.bytes l.rows) ok
