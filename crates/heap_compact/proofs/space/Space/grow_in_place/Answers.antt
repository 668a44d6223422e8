-- A chunk that grew moved no table, and one that didn't changed nothing.
use Rattle.heap_compact.proofs.KeptLaws.{grown_kept}
use Rattle.heap_compact.proofs.space.Space.grow_in_place.Goals as goal

pub returns-clause-tells : goal.returns-clause-tells
returns-clause-tells c = rw c.self.view_is at c.grow_in_place_at.ensures.tells

pub invariant_of-self : goal.invariant_of-self
invariant_of-self c = record {
  heap = c.grow_in_place_at.ensures.heap;
  lists = c.grow_in_place_at.ensures.lists;
  tables = grown_kept _ _ _ _ _ _ c.grow_in_place_at.ensures.grown c.grow_in_place_at.ensures.refused c.self.invariant.tables;
}
