-- The database at the index is the one that the directory lists there.
use Rattle.palm_store.proofs.Laws.{slot_in, at_index, no_index}
use Rattle.std.proofs.Common.{sym, arith}
use Rattle.palm_store.proofs.store.Store.nth.Goals as goal

pub returns-then-index-directory : goal.returns-then-index-directory
returns-then-index-directory c =
    let many = c.directory_bytes-directory.ensures.listed in
    rw (← c.self.view_is) (no_index _ _ c.self.invariant.accepted (omega arith))

pub returns : goal.returns
returns c =
    let is = c.directory_bytes-directory.ensures.is in
    let slot = slot_in _ _ _ _ is c.if-index-directory.false c.listed_in.ensures in
    rw (← c.self.view_is) (at_index _ _ _ c.self.invariant.accepted slot.inside (sym slot.there))
