-- The call does the step of the memory manager, on the store's heap.
use Rattle.palm_store.proofs.MemoryCalls.{forwarded, kept}
use Rattle.palm_store.proofs.store.Store.set.Goals as goal

pub invariant_of-self : goal.invariant_of-self
invariant_of-self c = kept _ _ _ _ c.self.invariant c.set.ensures.does

pub returns-clause-does : goal.returns-clause-does
returns-clause-does c = forwarded _ _ _ _ _ c.self.view_is c.self.invariant c.set.ensures.does
