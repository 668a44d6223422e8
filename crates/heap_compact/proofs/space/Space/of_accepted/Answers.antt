-- No chunk is in a list, and the tables of the chain are remembered.
use Rattle.heap_compact.proofs.Words.{Any, new_lists}
use Rattle.heap_compact.proofs.space.Space.of_accepted.Goals as goal

pub invariant_of-result : goal.invariant_of-result
invariant_of-result c = record {
  heap = c.requires.heap;
  lists = rw (← c.none.ensures) at (new_lists Any c.args.region.bytes);
  tables = c.of-tables.ensures;
}
