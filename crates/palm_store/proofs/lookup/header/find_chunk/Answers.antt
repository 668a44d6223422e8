-- A chunk of the manager that is not the directory is that of a database.
use Rattle.std.proofs.Common.{sym, ◌∙◌}
use Rattle.palm_store.proofs.Numbers.{number_slot, slot_number, number_movable, no_number, none_owner}
use Rattle.palm_store.proofs.lookup.header.find_chunk.Goals as goal
use Rattle.palm_store.proofs.lookup.header.find_chunk.Goals.{then-chunk-ne-MANAGERS_OWNER-via-then-chunk-ne-MANAGERS_OWNER, then-chunk-ne-MANAGERS_OWNER-via-else-chunk-ne-MANAGERS_OWNER+then-db-directory}

pub returns-in_default-clause-unknown : goal.returns-in_default-clause-unknown
returns-in_default-clause-unknown c = no_number _ _ (λ has.
    let slot = number_slot _ _ c.requires has in
    none_owner _ _ c.in_default.ensures.none slot.owner)

pub returns-then-chunk-ne-MANAGERS_OWNER-clause-unknown : goal.returns-then-chunk-ne-MANAGERS_OWNER-clause-unknown
returns-then-chunk-ne-MANAGERS_OWNER-clause-unknown c = no_number _ _ (λ has.
    let slot = number_slot _ _ c.requires has in
    elim c.then-chunk-ne-MANAGERS_OWNER.branch [
      | then-chunk-ne-MANAGERS_OWNER-via-then-chunk-ne-MANAGERS_OWNER w ↦ w.if-chunk-ne-MANAGERS_OWNER.true (c.in-Some.ensures.owner ∙ slot.owner)
      | then-chunk-ne-MANAGERS_OWNER-via-else-chunk-ne-MANAGERS_OWNER+then-db-directory w ↦ slot.other (w.if-db-directory.true ∙ w.directory.ensures)
    ])

pub returns-clause-known : goal.returns-clause-known
returns-clause-known c = slot_number _ _ c.requires (record {
  owner = sym c.in-Some.ensures.owner ∙ c.if-chunk-ne-MANAGERS_OWNER.false;
  other = λ directory. c.if-db-directory.false (directory ∙ sym c.directory.ensures);
})

pub returns-clause-is : goal.returns-clause-is
returns-clause-is c =
    let m = number_movable _ _ c.requires (returns-clause-known c) in
    c.in-Some.ensures.stands (λ fixed. m.movable (sym (c.in-Some.ensures.lock m.live m.is_held) ∙ fixed))
