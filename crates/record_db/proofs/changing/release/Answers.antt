-- The record keeps its ID and its data, and only its attributes change.
use Rattle.record_db.proofs.Laws.{false, ap, ◌∙◌, refl, is_deleted, store_of, entry_under, released, Release, Done, changes, released_deleted, info_is, no_data, may_have, attributes_set}
use Rattle.heap_model.specs.declared.call.Call.TheVariants as calls
use Rattle.record_db.proofs.changing.release.Goals as goal

pub entry_set-requires-clause-info : goal.entry_set-requires-clause-info
entry_set-requires-clause-info c =
    rw c.in_ok-found.ensures.found.db (let found = c.in_ok-found.ensures in
    let is = info_is _ c.in_ok-found.found.item found.is in
    may_have _ _ _ _ _ is.0 _ found.accepted found.found.known found.found.kind is.1
    (λ none. ap is_deleted c.released.ensures ∙ released_deleted c.args.dirty c.in_ok-found.found.item.attributes (no_data _ _ _ _ _ is.0 found.accepted found.found.known is.1 none)))

pub returns-clause-does : goal.returns-clause-does
returns-clause-does c =
    let found = c.in_ok-found.ensures in
    let is = info_is _ c.in_ok-found.found.item found.is in
    let leaves = attributes_set false _ _ _ _ _ _ is.0 _ (released c.args.dirty) found.accepted found.found.known is.1 c.released.ensures (rw found.found.db at c.entry_set.ensures.set) in
    changes _ _ _ _ _ (λ slots. refl) found.accepted leaves (found.passes, (tt, leaves.same)) c.entry_set.ensures.kept.loan tt c.entry_set.ensures.kept.rest
