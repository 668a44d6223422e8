-- The new ID is the record's own, or no record has it.
use Rattle.record_db.proofs.Laws.{◌∙◌, ap, true, inl, inr, refl, is_deleted, with_record_info, changes, with_info, set_as, set_deleted, info_is, no_data, may_have_id, no_other}
use Rattle.record_db.proofs.Words.{iff_false}
use Rattle.palm_store.specs.declared.entries.infos.EntryInfo.TheVariants as infos
use Rattle.record_db.proofs.changing.set_record_info.Goals as goal
use Rattle.record_db.proofs.changing.set_record_info.Goals.{else-id-found-via-then-id-found+else-has_id, else-id-found-via-else-id-found}

pub entry_set-requires-clause-info : goal.entry_set-requires-clause-info
entry_set-requires-clause-info c =
    rw c.in_ok-found.ensures.found.db (let found = c.in_ok-found.ensures in
    let is = info_is _ c.in_ok-found.found.item found.is in
    may_have_id _ _ _ _ _ is.0 _ c.args.id c.id_or-id.result found.accepted found.found.known found.found.kind is.1
    (λ none. ap is_deleted c.with_given.ensures ∙ set_deleted c.args.attributes c.in_ok-found.found.item.attributes (no_data _ _ _ _ _ is.0 found.accepted found.found.known is.1 none))
    c.id_or-id.ensures (elim c.else-id-found.branch [
      | else-id-found-via-then-id-found+else-has_id w ↦ inr (rw found.found.db at (iff_false w.has_id.ensures w.if-has_id.false))
      | else-id-found-via-else-id-found w ↦ inl w.if-id-found.false
    ]))

pub returns-clause-does : goal.returns-clause-does
returns-clause-does c =
    let found = c.in_ok-found.ensures in
    let none = found.passes in
    let is = info_is _ c.in_ok-found.found.item found.is in
    let other = no_other _ _ _ _ _ is.0 c.args.id c.id_or-id.result found.accepted found.found.known found.found.kind is.1 c.id_or-id.ensures (elim c.else-id-found.branch [
      | else-id-found-via-then-id-found+else-has_id w ↦ inr (rw found.found.db at (iff_false w.has_id.ensures w.if-has_id.false))
      | else-id-found-via-else-id-found w ↦ inl w.if-id-found.false
    ]) in
    let leaves = set_as true _ _ _ _ _ (with_info (infos.Record c.with_given.result c.id_or-id.result)) (with_record_info c.args.attributes c.args.id) found.accepted found.found.known is.1
    (rw (c.with_given.ensures, c.id_or-id.ensures) refl) (rw found.found.db at c.entry_set.ensures.set) in
    changes _ _ _ _ _ (λ slots. refl) found.accepted leaves ((none.0, (none.1.0, (none.1.1.0, (none.1.1.1.0, (other, tt))))), (tt, leaves.same)) c.entry_set.ensures.kept.loan tt c.entry_set.ensures.kept.rest
