-- The call does the step of the store.
use Rattle.palm_store.proofs.Laws.{ask_viewed, counted}
use Rattle.palm_store.proofs.store.Store.count.Goals as goal

pub returns : goal.returns
returns c =
    ask_viewed _ _ _ _ c.self.view_is
    (counted _ _ c.self.invariant.accepted c.count_databases.ensures)
