use Rattle.std.proofs.Common.{◌≡◌, length}
use Rattle.master_table.specs.Table.{IsRow, row_end, tables_from, empty_before}
use Rattle.master_table.proofs.table.slots_free.Given as goal

abbrev pub invariant-loop-row : goal.invariant-loop-row
invariant-loop-row l = record {
  row : IsRow l.region.bytes l.row;
  counted : l.count ≡ empty_before l.region.bytes (row_end l.row);
}

abbrev pub decreases-loop-row : goal.decreases-loop-row
decreases-loop-row l = length (tables_from l.region.bytes l.row.next)
