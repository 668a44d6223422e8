-- Where bodies are, and the two halves of the ties.
use Rattle.laws_heap.proofs.Words.{◌≡◌, ℕ, ◌+◌, ◌-◌, ◌≤◌, List, [], ◌∷◌, refl, sym, ap, ◌∙◌, arith, inl, inr, u32_at, Chunk, free, movable, fixed, size_of, total, IsSlot, slots_of, area_start, BodyHere, IsBody, Tied, Tiles, EveryPlaced, EveryOne, HoldsBody, NamesItsSlot}
use Rattle.laws_heap.proofs.Slots.{every_slot, each_slot}
use Rattle.laws_heap.proofs.Placed.{At, AnyPlaced-map, one_at, SpelledAll-takes}

-- ---- where a body is

body_here : (slot place at : ℕ) (c : Chunk) → BodyHere slot place at c
    → (at + 8 ≡ place) × (8 ≤ size_of c)
body_here slot place at (free size) b = absurd b
body_here slot place at (movable bytes lock owner named) b = (b.1, omega arith)
body_here slot place at (fixed bytes owner) b = absurd b

-- after its chunk's header
pub IsBody-low : (at : ℕ) (cs : List Chunk) (slot place : ℕ) → IsBody at cs slot place
    → at + 8 ≤ place
IsBody-low at [] slot place b = absurd b
IsBody-low at (c ∷ cs) slot place b = elim b [
  | inl own ↦ let e = (body_here slot place at c own).0 in omega arith
  | inr later ↦ let low = IsBody-low (at + size_of c) cs slot place later in omega arith
]

-- within the chunks
pub IsBody-high : (at : ℕ) (cs : List Chunk) (slot place : ℕ) → IsBody at cs slot place
    → place ≤ at + total cs
IsBody-high at [] slot place b = absurd b
IsBody-high at (c ∷ cs) slot place b = elim b [
  | inl own ↦ let e = body_here slot place at c own in omega arith
  | inr later ↦ let high = IsBody-high (at + size_of c) cs slot place later in omega arith
]

-- ---- the ties in two halves

-- each body among these chunks is held by the slot that its chunk names
abbrev AreHeld : List ℕ → ℕ → List Chunk → Type 0
AreHeld image at cs =
    (slot place : ℕ) → IsBody at cs slot place → IsSlot image slot × (u32_at image slot ≡ place)

named_here : (image : List ℕ) (at : ℕ) (c : Chunk) (slot place : ℕ) → NamesItsSlot image at c
    → BodyHere slot place at c → IsSlot image slot × (u32_at image slot ≡ place)
named_here image at (free size) slot place names b = absurd b
named_here image at (fixed bytes owner) slot place names b = absurd b
named_here image at (movable bytes lock owner named) slot place names b =
    (rw b.0 at names.0, ap (u32_at image) (sym b.0) ∙ names.1 ∙ b.1)

names_held : (image : List ℕ) (at : ℕ) (cs : List Chunk) → EveryPlaced (NamesItsSlot image) at cs
    → AreHeld image at cs
names_held image at [] every slot place b = absurd b
names_held image at (c ∷ cs) every slot place b = elim b [
  | inl own ↦ named_here image at c slot place every.0 own
  | inr later ↦ names_held image (at + size_of c) cs every.1 slot place later
]

held_here : (image : List ℕ) (at : ℕ) (c : Chunk) → ((slot place : ℕ) → BodyHere slot place at c
    → IsSlot image slot × (u32_at image slot ≡ place)) → NamesItsSlot image at c
held_here image at (free size) held = tt
held_here image at (fixed bytes owner) held = tt
held_here image at (movable bytes lock owner named) held = held named (at + 8) (refl, refl)

held_names : (image : List ℕ) (at : ℕ) (cs : List Chunk) → AreHeld image at cs
    → EveryPlaced (NamesItsSlot image) at cs
held_names image at [] held = tt
held_names image at (c ∷ cs) held = (
  held_here image at c (λ slot place b. held slot place (inl b)),
  held_names image (at + size_of c) cs (λ slot place b. held slot place (inr b)),
)

pub tied_halves : (image : List ℕ) (cs : List Chunk) → Tied image cs → EveryOne (HoldsBody image cs)
    (slots_of image) × EveryPlaced (NamesItsSlot image) (area_start image) cs
tied_halves image cs tied =
    let start : ℕ = area_start image in (
      every_slot _ image (λ slot s used. (tied slot (u32_at image slot) (omega arith)).0 (s, refl)),
      held_names image start cs (λ slot place b. let low = IsBody-low start cs slot place b in
          (tied slot place (omega arith)).1 b),
    )

pub halves_tied : (image : List ℕ) (cs : List Chunk)
    → EveryOne (HoldsBody image cs) (slots_of image)
    → EveryPlaced (NamesItsSlot image) (area_start image) cs → Tied image cs
halves_tied image cs slots names slot place positive = (
  λ h. rw h.1 at (each_slot _ image slots slot h.0 (λ none. let e = h.1 in omega arith)),
  λ b. names_held image (area_start image) cs names slot place b,
)

-- ---- one place for a slot, and one slot for a place

pub one_place : (image : List ℕ) (cs : List Chunk) → Tied image cs → (slot place other : ℕ)
    → IsBody (area_start image) cs slot place → IsBody (area_start image) cs slot other
    → place ≡ other
one_place image cs tied slot place other b d =
    let low = IsBody-low (area_start image) cs slot place b in
    let high = IsBody-low (area_start image) cs slot other d in
    sym ((tied slot place (omega arith)).1 b).1 ∙ ((tied slot other (omega arith)).1 d).1

body_offset : (slot place at : ℕ) (c : Chunk) → 8 ≤ place → BodyHere slot place at c
    → At (place - 8) (BodyHere slot place) at c
body_offset slot place at c low b = let e = (body_here slot place at c b).0 in (omega arith, b)

same_slot : (slot other place at : ℕ) (c : Chunk) → BodyHere slot place at c
    → BodyHere other place at c → slot ≡ other
same_slot slot other place at (free size) b d = absurd b
same_slot slot other place at (movable bytes lock owner named) b d = sym b.0 ∙ d.0
same_slot slot other place at (fixed bytes owner) b d = absurd b

pub one_slot : (image : List ℕ) (cs : List Chunk) → Tiles image cs → (slot other place : ℕ)
    → IsBody (area_start image) cs slot place → IsBody (area_start image) cs other place
    → slot ≡ other
one_slot image cs tiles slot other place b d =
    let start : ℕ = area_start image in
    let low = IsBody-low start cs slot place b in
    let there = AnyPlaced-map _ _ (λ at c. body_offset slot place at c (omega arith)) start cs b in
    let here = AnyPlaced-map _ _ (λ at c. body_offset other place at c (omega arith)) start cs d in
    let one = one_at _ _ _ start cs (SpelledAll-takes image start cs _ tiles.area) there here in
    same_slot slot other place (place - 8) one.0 one.1 one.2
