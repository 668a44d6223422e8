-- A movable name has a chunk, which is found as it stands.
use Rattle.mem_manager.proofs.Laws.{stands_found, movable_there, movable_loose, movable_viewed, unlocked_here}
use Rattle.mem_manager.proofs.heap.Heap.sys_find.Goals as goal

pub movable-requires-clause-there : goal.movable-requires-clause-there
movable-requires-clause-there c = movable_there (movable_viewed c.self.view_is c.requires)

pub movable-requires-clause-movable : goal.movable-requires-clause-movable
movable-requires-clause-movable c = movable_loose (movable_viewed c.self.view_is c.requires)

pub returns-clause-stands : goal.returns-clause-stands
returns-clause-stands c =
    stands_found c.self.view_is c.self.invariant.heap c.requires c.movable.ensures

pub returns-clause-unlocked : goal.returns-clause-unlocked
returns-clause-unlocked c = unlocked_here c.self.view_is c.self.invariant.heap c.movable.ensures
