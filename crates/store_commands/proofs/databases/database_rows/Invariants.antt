use Rattle.std.proofs.Common.{◌≡◌, map, take}
use Rattle.heap_model.specs.Store.{store_of}
use Rattle.store_commands.specs.Databases.{listed_row}
use Rattle.store_commands.proofs.databases.database_rows.Given as goal

abbrev pub invariant-loop-index : goal.invariant-loop-index
invariant-loop-index g l = l.rows.items ≡ map (listed_row (store_of l.store.bytes)) (take l.index (store_of l.store.bytes).databases)
