use Rattle.std.proofs.Common.{length}
use Rattle.master_table.specs.Table.{IsRow, tables_from}
use Rattle.master_table.proofs.slots.last_row.Given as goal

abbrev pub invariant-loop-row : goal.invariant-loop-row
invariant-loop-row l = IsRow l.region.bytes l.row

abbrev pub decreases-loop-row : goal.decreases-loop-row
decreases-loop-row l = length (tables_from l.region.bytes l.row.next)
