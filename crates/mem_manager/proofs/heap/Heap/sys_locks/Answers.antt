-- The lock count is that of the chunk that was found.
use Rattle.mem_manager.proofs.Laws.{lock_viewed, unlocked_here}
use Rattle.mem_manager.proofs.heap.Heap.sys_locks.Goals as goal

pub returns-clause-is : goal.returns-clause-is
returns-clause-is c live = lock_viewed c.self.inside.space c.args.self.now c.args.name.0 _ live
    c.self.view_is c.self.invariant.heap.accepted c.chunk.ensures

pub returns-clause-unlocked : goal.returns-clause-unlocked
returns-clause-unlocked c = unlocked_here c.self.view_is c.self.invariant.heap c.chunk.ensures
