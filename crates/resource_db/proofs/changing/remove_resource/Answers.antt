-- The call is refused if the data is locked. Otherwise it drops the entry.
use Rattle.resource_db.proofs.Words.{refl, iff_false, sym, ap, subst, inl, inr, data_of_entry, refused, changes, IsLockedChunk, HasLockedData, data_named}
use Rattle.resource_db.proofs.changing.remove_resource.Goals as goal

pub is_locked-requires : goal.is_locked-requires
is_locked-requires c = data_named _ _ _ _ c.in_ok-resource.ensures.accepted c.in_ok-resource.ensures.found.known c.in_ok-resource.ensures.is c.in_ok-resource.ensures.some

pub returns-then-is_locked-clause-does : goal.returns-then-is_locked-clause-does
returns-then-is_locked-clause-does c =
    let found = c.in_ok-resource.ensures in
    let none = found.passes in
    let locked : HasLockedData c.args.store.now.bytes c.args.db c.args.index = subst (IsLockedChunk c.args.store.now.bytes) (sym (ap data_of_entry found.is)) (c.is_locked.ensures.0 c.if-is_locked.true) in
    refused _ _ _ found.accepted (inr (none.0, inr (none.1.0, inr (none.1.1.0, inr (none.1.1.1.0, inl (locked, refl))))))

pub entry_drop-requires-clause-unlocked : goal.entry_drop-requires-clause-unlocked
entry_drop-requires-clause-unlocked c =
    rw c.in_ok-resource.ensures.found.db (λ locked. iff_false c.is_locked.ensures c.if-is_locked.false (subst (IsLockedChunk c.args.store.now.bytes) (ap data_of_entry c.in_ok-resource.ensures.is) locked))

pub returns-clause-does : goal.returns-clause-does
returns-clause-does c =
    let found = c.in_ok-resource.ensures in
    let none = found.passes in
    let leaves = rw found.found.db at c.entry_drop.ensures.dropped in
    let unlocked = λ (locked : HasLockedData c.args.store.now.bytes c.args.db c.args.index). iff_false c.is_locked.ensures c.if-is_locked.false (subst (IsLockedChunk c.args.store.now.bytes) (ap data_of_entry found.is) locked) in
    changes _ _ _ _ _ (λ slots. refl) found.accepted leaves ((none.0, (none.1.0, (none.1.1.0, (none.1.1.1.0, (unlocked, tt))))), (tt, leaves.same)) c.entry_drop.ensures.kept.loan tt c.entry_drop.ensures.kept.rest
