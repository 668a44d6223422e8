use Rattle.std.proofs.Common.{◌+◌}
use Rattle.master_table.specs.Table.{UsedBefore, row_start}
use Rattle.master_table.proofs.table.empty_in_row.Given as goal

abbrev pub invariant-loop-index : goal.invariant-loop-index
invariant-loop-index l = UsedBefore l.region.bytes (row_start l.row + l.index)
