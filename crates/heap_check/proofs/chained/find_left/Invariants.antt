-- The loop of `find_left` keeps its invariant: the slots before this row hold bodies.
use Rattle.heap_check.proofs.Words.{length, IsRow, row_start, tables_from, HeldBefore}
use Rattle.heap_check.proofs.chained.find_left.Given as goal

abbrev pub invariant-loop-row : goal.invariant-loop-row
invariant-loop-row l =
    record { row : IsRow l.region.bytes l.row; held : HeldBefore l.region.bytes (row_start l.row) }

abbrev pub decreases-loop-row : goal.decreases-loop-row
decreases-loop-row l = length (tables_from l.region.bytes l.row.next)
