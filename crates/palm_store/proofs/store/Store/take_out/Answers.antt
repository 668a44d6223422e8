-- The loan is one of the store, and the databases are as they were.
use Rattle.palm_store.proofs.Loans.{takes_out, takes_replied}
use Rattle.palm_store.proofs.store.Store.take_out.Goals as goal

pub invariant_of-self : goal.invariant_of-self
invariant_of-self c =
    let e = c.take_out.ensures in takes_replied _ _ _ _ _ c.self.invariant e.taken e.refused

pub returns-clause-taken : goal.returns-clause-taken
returns-clause-taken c =
    rw (← c.self.view_is) (takes_out _ _ _ _ c.self.invariant.accepted c.take_out.ensures.taken)
