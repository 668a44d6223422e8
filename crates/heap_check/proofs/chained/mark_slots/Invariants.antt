-- The loop of `mark_slots` keeps its invariant: the slots before this row are marked if in use.
use Rattle.heap_check.proofs.Words.{◌≤◌, length, IsRow, row_start, tables_from, MarksBefore}
use Rattle.heap_check.proofs.chained.mark_slots.Given as goal

abbrev pub invariant-loop-marks : goal.invariant-loop-marks
invariant-loop-marks l = record {
  row : IsRow l.region.bytes l.row;
  marked : MarksBefore l.region.bytes (row_start l.row) l.marks;
  room : 524288 ≤ length l.marks;
}

abbrev pub decreases-loop-marks : goal.decreases-loop-marks
decreases-loop-marks l = length (tables_from l.region.bytes l.row.next)
