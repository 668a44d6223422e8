-- The steps of the check of a chain prove together that an image has no fault, or its first fault.
use Rattle.heap_check.proofs.Words.{◌≡◌, ℕ, ◌+◌, ◌*◌, ◌/◌, ◌%◌, Bool, true, false, List, [], ◌∷◌, ◌++◌, Option, Some, None, refl, sym, ap, subst, ◌∙◌, arith, inl, inr, ◌⊎◌, ◌==◌, not, IfNone, cases_eq, eqb-true, false≢true, true_or_false, Decides-holds, u32_at, IsInSet, HasNone, IsRow, row_end, last_end, stands_split, parts_stand, stands_slot, slot_facts, first_slots-more, first_slots-all, every_first-more, Chunk, IsHead, Tiles, IsKnownIfFixed, StandsIn, StandsBehind, first_slots, slots_of, area_start, further_tables, EveryOne, FirstOne, HoldsBody, NamesItsSlot, chunks_of, holds_body, SlotMismatch, ChunkWithoutSlot, BadFixedOwner, Bodies, Chain, IsFirstHeapFault, IsFirstWithout, FoundBodies, Followed, Marks, MarksBefore, HeldBefore, AddsInUse, IsInUse, IsLeft}
use Rattle.master_table.specs.declared.slots.Row.{Row}
use Rattle.heap_check.proofs.CheckLaws.{Slotted, Named, Owned, found_first, found_none, first_slot, first_without, first_owner}

pub followed_tiles : (image : List ℕ) (bodies : Bodies) (chain : Chain) (marks : List ℕ)
    → IsHead image → FoundBodies image bodies → Followed image chain marks
    → Tiles image (chunks_of image)
followed_tiles image bodies chain marks h found followed =
    record { head = h; area = found.spelled; chain = followed.chain }

pub left_mismatch : (image : List ℕ) (slot : ℕ) → Tiles image (chunks_of image)
    → FirstOne (HoldsBody image (chunks_of image)) (slots_of image) slot
    → IsFirstHeapFault image (SlotMismatch slot)
left_mismatch image slot t f = first_slot image slot (t, f)

pub names_without : (image : List ℕ) (at : ℕ) (found : Option ℕ) → Tiles image (chunks_of image)
    → Slotted image → IsFirstWithout (NamesItsSlot image) (area_start image) (chunks_of image) found
    → found ≡ Some at → IsFirstHeapFault image (ChunkWithoutSlot at)
names_without image at found t s f is = first_without image at s
    (t, found_first (NamesItsSlot image) (area_start image) (chunks_of image) found at f is)

pub named_all : (image : List ℕ) (found : Option ℕ)
    → IsFirstWithout (NamesItsSlot image) (area_start image) (chunks_of image) found → found ≡ None
    → Named image
named_all image found f is =
    found_none (NamesItsSlot image) (area_start image) (chunks_of image) found f is

pub stray_owner : (image : List ℕ) (at : ℕ) (found : Option ℕ) → Tiles image (chunks_of image)
    → Slotted image → Named image → IsFirstWithout (IsKnownIfFixed (further_tables image))
    (area_start image) (chunks_of image) found → found ≡ Some at
    → IsFirstHeapFault image (BadFixedOwner at)
stray_owner image at found t s n f is = first_owner image at s n (
  t,
  found_first (IsKnownIfFixed (further_tables image)) (area_start image)
      (chunks_of image) found at f is,
)

pub owned_all : (image : List ℕ) (found : Option ℕ) → IsFirstWithout (IsKnownIfFixed
    (further_tables image)) (area_start image) (chunks_of image) found → found ≡ None → Owned image
owned_all image found f is = found_none (IsKnownIfFixed (further_tables image)) (area_start image)
    (chunks_of image) found f is

-- ---- slots in use are marked

stands_left : (xs ys : List ℕ) (n : ℕ) → StandsIn xs n → StandsIn (xs ++ ys) n
stands_left [] ys n h = absurd h
stands_left (x ∷ xs) ys n h =
    elim h [ inl is ↦ inl is | inr later ↦ inr (stands_left xs ys n later) ]

pub marks_none : (image marks : List ℕ) → HasNone marks → MarksBefore image 0 marks
marks_none image marks none word =
    (λ has. absurd (none word has), λ x. absurd (none_first x.0)) where
      none_first : StandsIn (first_slots image 0) (4 * word) → ⊥
      none_first h = h

pub marks_more : (image : List ℕ) (cs : List Chunk) (slot k : ℕ) (old new : List ℕ) → Tiles image cs
    → StandsBehind image slot k → AddsInUse image slot old new → MarksBefore image k old
    → MarksBefore image (k + 1) new
marks_more image cs slot k old new t s adds m word = elim adds [
  | inl used ↦ (
    λ has. elim (cases_eq word (slot / 4)) [
      | inl own ↦
          let w = whole in
          let here : 4 * word ≡ slot = omega arith in (
            subst (λ (n : ℕ). StandsIn (first_slots image (k + 1)) n) (sym here) last,
            λ e. used.0 (ap (u32_at image) (sym here) ∙ e),
          )
      | inr other ↦ let was = (m word).0 ((used.1.others word other).0 has) in
          (earlier was.0, was.1)
    ],
    λ x. elim (cases_eq word (slot / 4)) [
      | inl own ↦ subst (λ (n : ℕ). IsInSet new n) (sym own) used.1.here
      | inr other ↦ (used.1.others word other).1 ((m word).1 (
        elim (split
            x.0) [ inl was ↦ was | inr own ↦ (let w = whole in absurd (other (omega arith))) ],
        x.1,
      ))
    ],
  )
  | inr empty ↦ (
    λ has. let was = (m word).0 (subst (λ (l : List ℕ). IsInSet l word) empty.1 has) in
        (earlier was.0, was.1),
    λ x. subst (λ (l : List ℕ). IsInSet l word) (sym empty.1) ((m word).1 (
      elim (split
          x.0) [ inl was ↦ was | inr own ↦ absurd (x.1 (ap (u32_at image) (sym own) ∙ empty.0)) ],
      x.1,
    )),
  )
] where
  whole : slot % 4 ≡ 0
  whole = (slot_facts image cs slot t (stands_slot image slot k s)).whole

  more : first_slots image (k + 1) ≡ first_slots image k ++ slot ∷ []
  more = first_slots-more image slot k s

  last : StandsIn (first_slots image (k + 1)) slot
  last = subst (λ (xs : List ℕ). StandsIn xs slot) (sym more)
      (parts_stand (first_slots image k) [] slot)

  earlier : StandsIn (first_slots image k) (4 * word)
      → StandsIn (first_slots image (k + 1)) (4 * word)
  earlier h = subst (λ (xs : List ℕ). StandsIn xs (4 * word)) (sym more)
      (stands_left (first_slots image k) (slot ∷ []) (4 * word) h)

  split : StandsIn (first_slots image (k + 1)) (4 * word)
      → StandsIn (first_slots image k) (4 * word) ⊎ (slot ≡ 4 * word)
  split h = elim (stands_split (first_slots image k) (slot ∷ []) (4 * word)
      (subst (λ (xs : List ℕ). StandsIn xs (4 * word)) more h)) [
        | inl was ↦ inl was
        | inr own ↦ elim own [ inl is ↦ inr is | inr none ↦ absurd none ]
      ]

-- after the last row all are
pub marks_all : (image : List ℕ) (row : Row) (marks : List ℕ) → IsRow image row
    → (row.next == 0) ≡ true → MarksBefore image (row_end row) marks → Marks marks (IsInUse image)
marks_all image row marks is last m word = (
  λ has. let was = (m word).0 has in
      (record { listed = subst (λ (xs : List ℕ). StandsIn xs (4 * word)) all was.0 }, was.1),
  λ x. (m word).1 (subst (λ (xs : List ℕ). StandsIn xs (4 * word)) (sym all) x.0.listed, x.1),
) where
  all : first_slots image (row_end row) ≡ slots_of image
  all = first_slots-all image (row_end row)
      (let end = last_end image row is (eqb-true row.next 0 last) in omega (arith, end))

-- ---- no slot is left

pub held_more : (image : List ℕ) (cs : List Chunk) (slot k : ℕ) (marks : List ℕ) → Tiles image cs
    → StandsBehind image slot k → Marks marks (IsLeft image) → (IsInSet marks (slot / 4) → ⊥)
    → HeldBefore image k → HeldBefore image (k + 1)
held_more image cs slot k marks t s left none held =
    let is = stands_slot image slot k s in
    let whole = (slot_facts image cs slot t is).whole in
    let here : 4 * (slot / 4) ≡ slot = omega arith in
    every_first-more (HoldsBody image (chunks_of image)) image slot k s held
    (elim (true_or_false (holds_body image slot)) [
      | inl body ↦ (Decides-holds image slot).0 body
      | inr bare ↦ absurd (none ((left (slot / 4)).1 (subst (λ (n : ℕ). IsLeft image n) (sym here)
          (is, λ body. false≢true (sym bare ∙ (Decides-holds image slot).1 body)))))
    ])

-- a slot that is marked holds none
pub marked_bare : (image : List ℕ) (cs : List Chunk) (slot k : ℕ) (marks : List ℕ) → Tiles image cs
    → StandsBehind image slot k → Marks marks (IsLeft image) → IsInSet marks (slot / 4)
    → HoldsBody image (chunks_of image) slot → ⊥
marked_bare image cs slot k marks t s left has body =
    let whole = (slot_facts image cs slot t (stands_slot image slot k s)).whole in
    let here : 4 * (slot / 4) ≡ slot = omega arith in
    ((left (slot / 4)).0 has).1
    (subst (λ (n : ℕ). HoldsBody image (chunks_of image) n) (sym here) body)

pub held_none : (image : List ℕ) → HeldBefore image 0
held_none image = tt

pub held_all : (image : List ℕ) (row : Row) → IsRow image row → (row.next == 0) ≡ true
    → HeldBefore image (row_end row) → EveryOne (HoldsBody image (chunks_of image)) (slots_of image)
held_all image row is last held =
    subst (λ (xs : List ℕ). EveryOne (HoldsBody image (chunks_of image)) xs)
    (first_slots-all image (row_end row)
    (let end = last_end image row is (eqb-true row.next 0 last) in omega (arith, end))) held

pub held_last : (image : List ℕ) (row : Row) (r : Option ℕ) → IsRow image row
    → (row.next == 0) ≡ true → IfNone r (HeldBefore image (row_end row))
    → IfNone r (EveryOne (HoldsBody image (chunks_of image)) (slots_of image))
held_last image row None is last held = held_all image row is last held
held_last image row (Some slot) is last held = tt

-- ---- a test that was turned

pub not_so : (b : Bool) → not b ≡ true → b ≡ true → ⊥
not_so true turned is = false≢true turned
not_so false turned is = false≢true is

pub is_so : (b : Bool) → not b ≡ false → b ≡ true
is_so true turned = refl
is_so false turned = absurd (false≢true (sym turned))
