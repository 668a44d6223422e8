-- The chunk is resized with no free chunk after it.
use Rattle.heap_compact.proofs.Laws.{none_behind, shrinks, viewed_heap, viewed_space}
use Rattle.heap_compact.proofs.space.Space.shrink.Goals as goal

pub resize_listed-requires-clause-behind : goal.resize_listed-requires-clause-behind
resize_listed-requires-clause-behind c = rw (← c.self.view_is) at (none_behind _ _ c.requires.found)

pub returns-clause-made : goal.returns-clause-made
returns-clause-made c =
    shrinks _ _ _ _ (viewed_heap c.self.view_is c.self.invariant.heap).accepted c.requires.found
    (rw c.self.view_is at c.resize_listed.ensures.resized)

pub invariant_of-self : goal.invariant_of-self
invariant_of-self c =
    viewed_space c.self.view_is c.resize_listed.ensures.heap c.resize_listed.ensures.lists
    (shrinks _ _ _ _ (viewed_heap c.self.view_is c.self.invariant.heap).accepted c.requires.found
    (rw c.self.view_is at c.resize_listed.ensures.resized)).frame c.self.invariant.tables
