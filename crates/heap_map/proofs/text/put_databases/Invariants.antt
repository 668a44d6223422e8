-- The loop of `put_databases` keeps its invariant: whatever is written from here on completes the
-- lines.
use Rattle.heap_map.proofs.Laws.{Bool, Writing, Writes, listed_count, database_line, database_lines, rest_lines}
use Rattle.heap_map.proofs.text.put_databases.Given as goal

abbrev pub invariant-loop-db : goal.invariant-loop-db
invariant-loop-db g l = (new : Writing g.row.W.Denot) (ok : Bool) → Writes g.W.Write.contents l.out
    new (rest_lines (database_line l.region.bytes) (listed_count l.region.bytes) l.db) ok
    → Writes g.W.Write.contents l.fn.out new (database_lines l.region.bytes) ok
