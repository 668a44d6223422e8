-- The call is refused if the data is locked. Otherwise it drops the entry.
use Rattle.record_db.proofs.Words.{refl, inl, inr, refused, changes, iff_false}
use Rattle.record_db.proofs.Entries.{data_named, locked_data}
use Rattle.record_db.proofs.changing.remove.Goals as goal

pub has_locked-requires : goal.has_locked-requires
has_locked-requires c = data_named _ _ _ c.in_ok-found.found.item c.in_ok-found.ensures.accepted c.in_ok-found.ensures.found.known c.in_ok-found.ensures.is

pub returns-then-has_locked-clause-does : goal.returns-then-has_locked-clause-does
returns-then-has_locked-clause-does c =
    let found = c.in_ok-found.ensures in
    let none = found.passes in
    let locked = locked_data _ _ _ c.in_ok-found.found.item found.accepted found.is in
    refused _ _ _ found.accepted (inr (none.0, inr (none.1.0, inr (none.1.1.0, inr (none.1.1.1.0, inl (locked.1 (c.has_locked.ensures.0 c.if-has_locked.true), refl))))))

pub entry_drop-requires-clause-unlocked : goal.entry_drop-requires-clause-unlocked
entry_drop-requires-clause-unlocked c =
    rw c.in_ok-found.ensures.found.db (let locked = locked_data _ _ _ c.in_ok-found.found.item c.in_ok-found.ensures.accepted c.in_ok-found.ensures.is in
    λ is. iff_false c.has_locked.ensures c.if-has_locked.false (locked.0 is))

pub returns-clause-does : goal.returns-clause-does
returns-clause-does c =
    let found = c.in_ok-found.ensures in
    let none = found.passes in
    let locked = locked_data _ _ _ c.in_ok-found.found.item found.accepted found.is in
    let leaves = rw found.found.db at c.entry_drop.ensures.dropped in
    changes _ _ _ _ _ (λ slots. refl) found.accepted leaves
    ((none.0, (none.1.0, (none.1.1.0, (none.1.1.1.0, ((λ is. iff_false c.has_locked.ensures c.if-has_locked.false (locked.0 is)), tt))))), (tt, leaves.same)) c.entry_drop.ensures.kept.loan tt c.entry_drop.ensures.kept.rest
