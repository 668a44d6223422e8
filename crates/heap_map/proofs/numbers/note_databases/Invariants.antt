-- The loop of `note_databases` keeps its invariant: each slot has the number of the last database
-- before this one that names it.
use Rattle.heap_map.specs.Numbers.{HasNumbers, last_naming_below}
use Rattle.heap_map.proofs.numbers.note_databases.Given as goal

abbrev pub invariant-loop-db : goal.invariant-loop-db
invariant-loop-db l = HasNumbers (last_naming_below l.region.bytes l.db) l.table
