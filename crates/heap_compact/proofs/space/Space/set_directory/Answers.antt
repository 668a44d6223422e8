-- Another directory leaves lists and tables as they are.
use Rattle.heap_compact.proofs.Laws.{lists_kept, knows_still}
use Rattle.heap_compact.proofs.space.Space.set_directory.Goals as goal

pub invariant_of-self : goal.invariant_of-self
invariant_of-self c = record {
  heap = c.name_directory.ensures.heap;
  lists = lists_kept _ _ _ _ c.name_directory.ensures.keeps c.self.invariant.lists;
  tables = knows_still _ _ _ c.name_directory.ensures.names.tables c.self.invariant.tables;
}
