-- `is_other_or_marked` is true of a slot with no chunk of the manager's, by the laws of OwnerLaws.
use Rattle.store_check.proofs.Lemmas.{length, refl, inl, inr, owned_slot, slot_marked}
use Rattle.store_check.proofs.slots.is_other_or_marked.Goals as goal

pub returns-else-not-is_managers : goal.returns-else-not-is_managers
returns-else-not-is_managers c image xs h noted room m =
    let own = (c.if-not-is_managers.ensures image h noted).0 refl in
    let told = c.is_marked.ensures xs (slot_marked _ _ (length c.args.marks.now) h room
    (owned_slot image c.args.slot h (inl own))) m in (
      λ yes. inr (told.0 yes),
      λ either. elim either [ inl other ↦ absurd (other own) | inr some ↦ told.1 some ],
    )
