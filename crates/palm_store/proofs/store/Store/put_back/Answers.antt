-- The loan is back, and the databases are as they were.
use Rattle.palm_store.proofs.Laws.{refl, rewritten_steps, seen_bytes}
use Rattle.palm_store.proofs.OpenedHere.{still_store}
use Rattle.palm_store.proofs.store.Store.put_back.Goals as goal

pub invariant_of-self : goal.invariant_of-self
invariant_of-self c =
    let e = c.put_back.ensures in
    let left = rewritten_steps _ _ _ _ c.self.invariant.accepted e.owned e.back.leaves in
    still_store left refl c.self.invariant

pub returns : goal.returns
returns c =
    let e = c.put_back.ensures in
    let back = e.back in
    let left = rewritten_steps _ _ _ _ c.self.invariant.accepted e.owned back.leaves in record {
      back = rw (← c.self.view_is) (record {
        bytes = seen_bytes _ _ _ back.bytes;
        leaves = left;
        unmoved = back.unmoved;
        at = back.at;
        placed = back.placed;
        rest = back.rest;
      });
      owned = rw (← c.self.view_is) e.owned;
    }
