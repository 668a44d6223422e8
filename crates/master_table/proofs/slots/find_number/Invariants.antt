use Rattle.std.proofs.Common.{length}
use Rattle.master_table.specs.Table.{tables_from}
use Rattle.master_table.proofs.RowLaws.{Searched}
use Rattle.master_table.proofs.slots.find_number.Given as goal

abbrev pub invariant-loop-row : goal.invariant-loop-row
invariant-loop-row l = Searched l.region.bytes l.row l.slot

abbrev pub decreases-loop-row : goal.decreases-loop-row
decreases-loop-row l = length (tables_from l.region.bytes l.row.next)
