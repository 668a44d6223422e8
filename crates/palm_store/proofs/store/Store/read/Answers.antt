-- The call does the step of the memory manager, on the store's heap.
use Rattle.palm_store.proofs.MemoryCalls.{asked}
use Rattle.palm_store.proofs.store.Store.read.Goals as goal

pub returns-clause-does : goal.returns-clause-does
returns-clause-does c = asked _ _ _ _ c.self.view_is c.self.invariant.accepted c.read.ensures.does
