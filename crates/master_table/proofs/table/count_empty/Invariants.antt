use Rattle.std.proofs.Common.{◌≡◌, ◌+◌}
use Rattle.master_table.specs.Table.{empty_before, row_start}
use Rattle.master_table.proofs.table.count_empty.Given as goal

abbrev pub invariant-loop-index : goal.invariant-loop-index
invariant-loop-index l = l.count ≡ empty_before l.region.bytes (row_start l.row + l.index)
