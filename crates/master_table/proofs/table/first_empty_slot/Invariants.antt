use Rattle.std.proofs.Common.{◌≤◌, length}
use Rattle.master_table.specs.Table.{IsRow, UsedBefore, row_start, tables_from}
use Rattle.master_table.proofs.table.first_empty_slot.Given as goal

abbrev pub invariant-loop-row : goal.invariant-loop-row
invariant-loop-row l = record {
  row : IsRow l.region.bytes l.row;
  from : row_start l.row ≤ l.at;
  used : UsedBefore l.region.bytes l.at;
}

abbrev pub decreases-loop-row : goal.decreases-loop-row
decreases-loop-row l = length (tables_from l.region.bytes l.row.next)
