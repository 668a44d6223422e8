-- The mark of a slot is the owner of its chunk, and a word that is no slot has no owner.
use Rattle.store_check.proofs.Terms.{◌≡◌, ℕ, ◌<◌, List, length, sym, subst, ◌∙◌, arith, inl, inr, false≢true, slice_index, HeapAccepted, IsSlot, is_slot, owner_under, true_or_false, Decides-slot, owned_slot, marked_word, HasOwners, HasMark, TellsOwner}
use Rattle.store_check.proofs.SlotWords.{slot_marked}

owner_told : (image : List ℕ) (slot owner : ℕ) → owner ≡ owner_under image slot
    → TellsOwner image slot owner
owner_told image slot owner e = record {
  managers = (λ is. sym e ∙ is, λ is. e ∙ is);
  «data» = (λ is. sym e ∙ is, λ is. e ∙ is);
}

-- what is no slot has no chunk of ours
no_owner_told : (image : List ℕ) (slot : ℕ) → HeapAccepted image → (IsSlot image slot → ⊥)
    → TellsOwner image slot 16
no_owner_told image slot h none = record {
  managers = (λ is. absurd (omega arith), λ is. absurd (none (owned_slot image slot h (inl is))));
  «data» = (λ is. absurd (omega arith), λ is. absurd (none (owned_slot image slot h (inr is))));
}

pub owner_noted : (image owners : List ℕ) (slot number : ℕ) → HeapAccepted image
    → HasOwners image owners → marked_word number ≡ slot → number < length owners
    → TellsOwner image slot (slice_index owners number)
owner_noted image owners slot number h noted word below =
    subst (λ (other : ℕ). TellsOwner image other (slice_index owners number)) word here where
      here : TellsOwner image (marked_word number) (slice_index owners number)
      here = elim (true_or_false (is_slot image (marked_word number))) [
        | inl is ↦ owner_told image (marked_word number) _
            (noted.each number ((Decides-slot image (marked_word number)).0 is))
        | inr other ↦
            let none : IsSlot image (marked_word number) → ⊥ =
            λ s. false≢true (sym other ∙ (Decides-slot image (marked_word number)).1 s) in
            subst (TellsOwner image (marked_word number)) (sym (noted.others number below none))
            (no_owner_told image (marked_word number) h none)
      ]

-- what has no mark is no slot
pub none_noted : (image owners : List ℕ) (slot : ℕ) → HeapAccepted image → HasOwners image owners
    → (HasMark slot (length owners) → ⊥) → TellsOwner image slot 16
none_noted image owners slot h noted none =
    no_owner_told image slot h (λ s. none (slot_marked _ _ (length owners) h noted.room s))
