-- The marks that the check of a heap leaves are the owners of the slots' chunks.
use Rattle.heap_check.proofs.Words.{◌≡◌, ℕ, ◌-◌, ◌≤◌, Bool, true, false, subst, List, length, Some, refl, sym, ap, ◌∙◌, arith, inl, inr, cases_eq, cases_lt, slice_index, u32_at, movable, IsSlot, StandsBehind, slots_of, slots_total, is_chained, HeapAccepted, EveryOne, chunk_at, chunks_of, owner_of, owner_under, read_heap, InSlot, in_slot, finds_held, finds_read, held-is, empty_unheld, chunk_at-spelled, each_slot, stands_slot, slot_stands, stands_below, one_total, one_stands, one_number, noted_owner, marked_word, NoneMarked, HasOwners, IsOwnerOf, AreNoted, IsMarked, KeepsBeyond}

-- the chunk that is found under a slot has the owner of the one that stands where the slot holds
-- its place
same_owner : (image : List ℕ) (slot owner : ℕ) → HeapAccepted image
    → (o : IsOwnerOf image slot owner) → (i : InSlot image slot (u32_at image slot))
    → owner ≡ i.live.owner
same_owner image slot owner h o i =
    same (sym (chunk_at-spelled image o.at (movable o.bytes o.lock owner slot) o.spelled)
    ∙ ap (chunk_at image) there ∙ finds_read image slot i.live
    (movable i.live.bytes i.live.lock i.live.owner i.named) (u32_at image slot - 8) h i.finds) where
      there : o.at ≡ u32_at image slot - 8
      there = let place = o.place in omega arith

      same : Some (movable o.bytes o.lock owner slot)
          ≡ Some (movable i.live.bytes i.live.lock i.live.owner i.named) → owner ≡ i.live.owner
      same e = cc

owner_read : (image : List ℕ) (slot owner : ℕ) → HeapAccepted image → IsSlot image slot
    → IsOwnerOf image slot owner → owner ≡ owner_under image slot
unfolding owner_under
owner_read image slot owner h s o =
    let place = o.place in
    let i = in_slot image slot (u32_at image slot) h s refl (omega arith) in
    same_owner image slot owner h o i ∙ sym (ap owner_of (finds_held image slot i.live
    (movable i.live.bytes i.live.lock i.live.owner i.named) (u32_at image slot - 8) h i.finds))

pub empty_owner : (image : List ℕ) (slot : ℕ) → HeapAccepted image → IsSlot image slot
    → u32_at image slot ≡ 0 → 16 ≡ owner_under image slot
unfolding owner_under
empty_owner image slot h s empty =
    let heap = read_heap image h in
    sym (ap owner_of (held-is image (chunks_of image) slot heap
    ∙ empty_unheld image (chunks_of image) slot heap s empty))

-- the marks after a walk over an image without a chain, if they were clear before
pub record Noted (notes : Bool) (image old marks : List ℕ) : Type 0 where
  pub notes_owners : notes ≡ true
  pub plain : is_chained image ≡ false
  pub room : slots_total image ≤ length marks
  pub len : length marks ≡ length old
  pub clear : NoneMarked old
  pub every : EveryOne (IsMarked image marks) (slots_of image)
  pub noted : AreNoted notes image marks
  pub beyond : KeepsBeyond image old marks

pub all_owners : (notes : Bool) (image old marks : List ℕ) → HeapAccepted image
    → Noted notes image old marks → HasOwners image marks
all_owners notes image old marks h n = record {
  room = λ number s. (let room = n.room in let below =
      stands_below image (marked_word number) number (numbered number s) in omega arith);
  each = λ number s. each (marked_word number) number (numbered number s);
  others = λ number below none.
      let many = one_total image n.plain in
      let far : slots_total image ≤ number = elim (cases_lt number (slots_total image)) [
        | inl low ↦ absurd (none (stands_slot image (marked_word number) number
            (one_stands image (marked_word number) number n.plain (omega arith) refl)))
        | inr high ↦ high
      ] in
      let len = n.len in
      n.beyond number far ∙ n.clear number (omega arith);
} where
  numbered : (number : ℕ) → IsSlot image (marked_word number)
      → StandsBehind image (marked_word number) number
  numbered number s =
      let k = slot_stands image (marked_word number) s in
      let there = one_number image (marked_word number) k.0 n.plain k.1 in
      let same : k.0 ≡ number = omega arith in
      subst (λ (m : ℕ). StandsBehind image (marked_word number) m) same k.1

  each : (slot number : ℕ) → StandsBehind image slot number
      → slice_index marks number ≡ owner_under image slot
  each slot number s =
      let is_slot : IsSlot image slot = stands_slot image slot number s in
      elim (cases_eq (slice_index marks number) 16) [
        | inl none ↦ none ∙ elim (cases_eq (u32_at image slot) 0) [
          | inl empty ↦ empty_owner image slot h is_slot empty
          | inr used ↦ absurd (each_slot (IsMarked image marks) image n.every slot is_slot used
              number s none)
        ]
        | inr marked ↦ let owner = n.noted slot number s marked in
            owner.1 ∙ ap (λ (b : Bool). noted_owner b owner.0) n.notes_owners
            ∙ owner_read image slot owner.0 h is_slot owner.2
      ]
