-- The call does the step of the memory manager, on the store's heap.
use Rattle.palm_store.proofs.MemoryCalls.{asked}
use Rattle.palm_store.proofs.store.Store.owner.Goals as goal

pub returns : goal.returns
returns c = asked _ _ _ _ c.self.view_is c.self.invariant.accepted c.owner.ensures
