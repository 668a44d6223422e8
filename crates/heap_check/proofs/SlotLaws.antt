-- The slots that a walk marks are those that hold the place of a chunk which names them.
use Rattle.heap_check.proofs.Words.{◌≡◌, ◌≢◌, ℕ, zero, suc, ◌+◌, ◌<◌, ◌≤◌, true, false, List, length, map, get_or, replicate, set, refl, sym, ap, subst, ◌∙◌, arith, inl, inr, ◌↔◌, ◌⊎◌, slice_index, Decides, cases_eq, Decides-and, Decides-eqb, get_or-map, get_or-set_same, get_or-set_other, map-set, length-map, u32_at, Chunk, is_chained, IsSlot, StandsBehind, slots_of, slots_total, first_slots, EveryOne, FirstOne, HoldsBody, true_or_false, Decides-slot, slot_stands, stands_slot, stands_below, same_slot, every_slot, first_slots-front, one_same, EveryOne-like, FirstOne-like, NoneMarked, holds_place, MarkTiedSlots, AddsMark, MarkedAt, IsHolder, IsMarked}

-- ---- one mark more

Decides-holds_place : (image : List ℕ) (slot at : ℕ)
    → Decides (holds_place image slot at) (IsSlot image slot × (u32_at image slot ≡ at + 8))
Decides-holds_place image slot at =
    Decides-and _ _ (Decides-slot image slot) (Decides-eqb (u32_at image slot) (at + 8))

pub holds_true : (image : List ℕ) (slot at : ℕ) → IsSlot image slot → u32_at image slot ≡ at + 8
    → true ≡ holds_place image slot at
holds_true image slot at s here = sym ((Decides-holds_place image slot at).1 (s, here))

pub holds_false : (image : List ℕ) (slot at : ℕ) → (IsSlot image slot → u32_at image slot ≢ at + 8)
    → false ≡ holds_place image slot at
holds_false image slot at none = elim (true_or_false (holds_place image slot at)) [
  | inl here ↦ let both = (Decides-holds_place image slot at).0 here in absurd (none both.0 both.1)
  | inr apart ↦ sym apart
]

mark_set_in : (image : List ℕ) (old : List ℕ) (named at mark number : ℕ) → is_chained image ≡ false
    → StandsBehind image named number → u32_at image named ≡ at + 8 → number < length old
    → AddsMark image (IsHolder image named at) mark old (set old number mark)
mark_set_in image old named at mark number plain there here room = record {
  each = λ slot k s. elim (cases_eq k number) [
    | inl same ↦
        let one : named ≡ slot = same_slot image named slot number there
        (subst (λ (n : ℕ). StandsBehind image slot n) same s) in
        let marked : slice_index (set old number mark) k ≡ mark =
        ap (λ (n : ℕ). slice_index (set old number mark) n) same
        ∙ get_or-set_same old number mark 0 room in
        inl ((one, sym here ∙ ap (u32_at image) one), marked)
    | inr apart ↦ inr (
      λ holder. apart (one_same image slot k number plain s (subst (λ (t : ℕ).
          StandsBehind image t number) holder.0 there)),
      get_or-set_other old number k mark 0 apart,
    )
  ];
  beyond = λ k far. let below = stands_below image named number there in
      get_or-set_other old number k mark 0 (λ same. omega arith);
}

-- the same for the meanings of marks
pub mark_set : {Mark : Type 0} (says : Mark → ℕ) (image : List ℕ) (old : List Mark) (named at : ℕ)
    (mark : Mark) (number : ℕ) → is_chained image ≡ false → StandsBehind image named number
    → u32_at image named ≡ at + 8 → number < length old → AddsMark image (IsHolder image named
    at) (says mark) (map says old) (map says (set old number mark))
mark_set says image old named at mark number plain there here room =
    subst (AddsMark image (IsHolder image named at) (says mark) (map says old))
    (sym (map-set says old number mark)) (mark_set_in image (map says old) named at (says mark)
    number plain there here (subst (λ (n : ℕ). number < n) (sym (length-map old says)) room))

pub mark_none : (image marks : List ℕ) (P : ℕ → Type 0) (mark : ℕ)
    → ((slot : ℕ) → IsSlot image slot → P slot → ⊥) → AddsMark image P mark marks marks
mark_none image marks P mark none = record {
  each = λ slot k s. inr (λ holds. none slot (stands_slot image slot k s) holds, refl);
  beyond = λ k far. refl;
}

-- which slots are marked then
pub marks_more : (image : List ℕ) (P : ℕ → Type 0) (mark : ℕ) (old new : List ℕ) → mark < 16
    → AddsMark image P mark old new → (slot number : ℕ) → StandsBehind image slot number
    → (MarkedAt new number ↔ (MarkedAt old number ⊎ P slot))
marks_more image P mark old new low adds slot number s = elim (adds.each slot number s) [
  | inl here ↦ (λ m. inr here.0, λ m e. (let is = here.1 in omega arith))
  | inr apart ↦ (
    λ m. inl (λ e. m (apart.1 ∙ e)),
    λ m. elim m [ inl was ↦ (λ e. was (sym apart.1 ∙ e)) | inr holds ↦ absurd (apart.0 holds) ],
  )
]

-- the meaning of a mark has the mark's number among the meanings
pub said : {Mark : Type 0} (says : Mark → ℕ) (marks : List Mark) (number : ℕ) (mark : Mark)
    → mark ≡ get_or marks number mark → number < length marks
    → slice_index (map says marks) number ≡ says mark
said says marks number mark is below = get_or-map says marks number mark 0 below ∙ ap says (sym is)

-- ---- all marks

marked_like : (image : List ℕ) (cs : List Chunk) (marks : List ℕ) → MarkTiedSlots image cs marks
    → (slot : ℕ) → IsSlot image slot → (IsMarked image marks slot ↔ HoldsBody image cs slot)
marked_like image cs marks are slot s =
    let n = slot_stands image slot s in (
      λ marked used. (are slot n.0 n.1).0 (marked used n.0 n.1),
      λ holds used k stands. (are slot k stands).1 (holds used),
    )

all_like : (image : List ℕ) (cs : List Chunk) (marks : List ℕ) → MarkTiedSlots image cs marks
    → EveryOne (λ slot. IsMarked image marks slot ↔ HoldsBody image cs slot) (slots_of image)
all_like image cs marks are = every_slot (λ slot. IsMarked image marks slot
    ↔ HoldsBody image cs slot) image (marked_like image cs marks are)

pub all_hold : (image : List ℕ) (cs : List Chunk) (marks : List ℕ) → MarkTiedSlots image cs marks
    → EveryOne (IsMarked image marks) (slots_of image)
    → EveryOne (HoldsBody image cs) (slots_of image)
all_hold image cs marks are every = EveryOne-like (IsMarked image marks) (HoldsBody image cs)
    (slots_of image) (all_like image cs marks are) every

pub first_mismatch : (image : List ℕ) (cs : List Chunk) (marks : List ℕ) (slot : ℕ)
    → MarkTiedSlots image cs marks → FirstOne (IsMarked image marks) (slots_of image) slot
    → FirstOne (HoldsBody image cs) (slots_of image) slot
first_mismatch image cs marks slot are first = FirstOne-like (IsMarked image marks)
    (HoldsBody image cs) (slots_of image) slot (all_like image cs marks are) first

-- a slot is the first without something, if those before it have it
pub first_of_number : (P : ℕ → Type 0) (image : List ℕ) (slot k : ℕ) → StandsBehind image slot k
    → EveryOne P (first_slots image k) → (P slot → ⊥) → FirstOne P (slots_of image) slot
first_of_number P image slot k s every without = record {
  before = s.front;
  after = s.rest;
  parts = s.parts;
  earlier = subst (λ (xs : List ℕ). EveryOne P xs) (first_slots-front image slot k s) every;
  without = without;
}

-- marks that are made are clear
pub none_marked : (n : ℕ) → NoneMarked (replicate n 16)
none_marked zero k below = absurd (omega arith)
none_marked (suc n) zero below = refl
none_marked (suc n) (suc k) below = none_marked n k (omega arith)

-- so are those of which none means an owner
pub none_said : {Mark : Type 0} (says : Mark → ℕ) (mark : Mark) → says mark ≡ 16 → (n : ℕ)
    → NoneMarked (map says (replicate n mark))
none_said says mark none zero k below = absurd (omega arith)
none_said says mark none (suc n) zero below = none
none_said says mark none (suc n) (suc k) below = none_said says mark none n k (omega arith)

pub none_at : (image marks : List ℕ) → slots_total image ≤ length marks → NoneMarked marks
    → (slot number : ℕ) → StandsBehind image slot number → MarkedAt marks number → ⊥
none_at image marks room none slot number s m = let below = stands_below image slot number s in
    m (none number (omega arith))
