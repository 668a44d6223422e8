-- The call does the step of the store.
use Rattle.palm_store.proofs.Laws.{ask_viewed, answered}
use Rattle.palm_store.proofs.store.Store.find.Goals as goal

pub returns : goal.returns
returns c =
    let e = c.find_named.ensures in
    ask_viewed _ _ _ _ c.self.view_is (answered _ _ _ _ _ c.self.invariant.accepted
    c.as_slice.ensures.is e.there e.none c.ok_or.ensures.value)
