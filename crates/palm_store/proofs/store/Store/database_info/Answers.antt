-- The call does the step of the store.
use Rattle.palm_store.proofs.Laws.{ℕ, List, ap, ◌∙◌, database_in, info_of, told}
use Rattle.palm_store.proofs.store.Store.database_info.Goals as goal

pub returns : goal.returns
returns c =
    let header = c.in_ok-find_header.ensures in
    rw (← c.self.view_is) (told _ _ _ c.self.invariant.accepted header.known
    (c.info_in.ensures ∙ ap (λ (bytes : List ℕ). info_of (database_in bytes)) header.is))
