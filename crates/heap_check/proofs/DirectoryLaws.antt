-- The test of the directory word decides `HasDirectory`, if slots and chunks are paired.
use Rattle.heap_check.proofs.Words.{◌≡◌, ◌≢◌, ℕ, ◌+◌, ◌-◌, List, ◌∷◌, ◌++◌, length, Option, Some, sym, ap, subst, ◌∙◌, arith, inl, inr, ◌↔◌, u32_at, Chunk, free, movable, fixed, total, SpelledAll, IsSlot, area_start, BodyHere, ManagersHere, directory_of, HasDirectory, Tiles, AnyPlaced, HoldsBody, NamesItsSlot, chunk_at, chunks_of, SpelledAll-split, chunk_at-spelled, each_slot, PlacedParts, AnyPlaced-parts, AnyPlaced-mid, every_any, IsPaired, ManagersAt, IsManagersBody}

-- the chunk of which something holds is the one that is read where it stands
parts_read : (P : ℕ → Chunk → Type 0) (image : List ℕ) (cs : List Chunk) → Tiles image cs
    → (p : PlacedParts P (area_start image) cs)
    → chunk_at image (area_start image + total p.before) ≡ Some p.chunk
parts_read P image cs tiles p =
    let start : ℕ = area_start image in
    let all : SpelledAll image start (p.before ++ p.chunk ∷ p.after) (length image) =
    subst (λ (xs : List Chunk). SpelledAll image start xs (length image)) p.parts tiles.area in
    chunk_at-spelled image (start + total p.before) p.chunk
    (SpelledAll-split image start p.before (p.chunk ∷ p.after) (length image) all).1.0

-- where its body is
body_place : (slot place at : ℕ) (c : Chunk) → BodyHere slot place at c → at + 8 ≡ place
body_place slot place at (free size) b = absurd b
body_place slot place at (movable bytes lock owner named) b = b.1
body_place slot place at (fixed bytes owner) b = absurd b

managers_here : (slot place at : ℕ) (c : Chunk) → BodyHere slot place at c → ManagersAt (Some c)
    → ManagersHere slot at c
managers_here slot place at (free size) b m = absurd b
managers_here slot place at (movable bytes lock owner named) b m = (b.0, m)
managers_here slot place at (fixed bytes owner) b m = absurd b

managers_at : (slot at : ℕ) (c : Chunk) → ManagersHere slot at c → ManagersAt (Some c)
managers_at slot at (free size) m = absurd m
managers_at slot at (movable bytes lock owner named) m = m.1
managers_at slot at (fixed bytes owner) m = absurd m

-- a chunk of the manager's that names a slot, whose place the slot holds
abbrev Both : List ℕ → ℕ → ℕ → Chunk → Type 0
Both image slot at c =
    IsSlot image slot × BodyHere slot (u32_at image slot) at c × ManagersHere slot at c

both_here : (image : List ℕ) (slot at : ℕ) (c : Chunk) → NamesItsSlot image at c
    → ManagersHere slot at c → Both image slot at c
both_here image slot at (free size) names m = absurd m
both_here image slot at (movable bytes lock owner named) names m =
    (subst (λ (s : ℕ). IsSlot image s) m.0 names.0, (m.0, sym names.1 ∙ ap (u32_at image) m.0), m)
both_here image slot at (fixed bytes owner) names m = absurd m

managers_parts : (image : List ℕ) (slot : ℕ) → IsPaired image
    → AnyPlaced (ManagersHere slot) (area_start image) (chunks_of image)
    → PlacedParts (Both image slot) (area_start image) (chunks_of image)
managers_parts image slot paired m =
    let start : ℕ = area_start image in
    let cs : List Chunk = chunks_of image in
    AnyPlaced-parts (Both image slot) start cs (every_any (NamesItsSlot image) (ManagersHere slot)
    (Both image slot) (both_here image slot) start cs paired.names m)

-- the word names a slot
pub directory_slot : (image : List ℕ) (slot : ℕ) → IsPaired image
    → AnyPlaced (ManagersHere slot) (area_start image) (chunks_of image) → IsSlot image slot
directory_slot image slot paired m = (managers_parts image slot paired m).holds.0

there : (image : List ℕ) (slot place : ℕ) → IsPaired image → IsSlot image slot
    → place ≡ u32_at image slot → IsManagersBody image place
    → AnyPlaced (ManagersHere slot) (area_start image) (chunks_of image)
there image slot place paired s is d =
    let start : ℕ = area_start image in
    let cs : List Chunk = chunks_of image in
    let low = d.0 in
    let body = each_slot (HoldsBody image cs) image paired.slots slot s (λ none. omega arith) in
    let p = AnyPlaced-parts (BodyHere slot (u32_at image slot)) start cs body in
    let here = body_place slot (u32_at image slot) (start + total p.before) p.chunk p.holds in
    let at : place - 8 ≡ start + total p.before = omega arith in
    let read : chunk_at image (place - 8) ≡ Some p.chunk = ap (chunk_at image) at
    ∙ parts_read (BodyHere slot (u32_at image slot)) image cs paired.tiles p in
    let m : ManagersHere slot (start + total p.before) p.chunk =
    managers_here slot (u32_at image slot) (start + total p.before) p.chunk p.holds
    (subst (λ (c : Option Chunk). ManagersAt c) read d.1) in
    subst (λ (xs : List Chunk). AnyPlaced (ManagersHere slot) start xs) (sym p.parts)
    (AnyPlaced-mid (ManagersHere slot) start p.before p.chunk p.after m)

back : (image : List ℕ) (slot place : ℕ) → IsPaired image → place ≡ u32_at image slot
    → AnyPlaced (ManagersHere slot) (area_start image) (chunks_of image)
    → IsManagersBody image place
back image slot place paired is m =
    let start : ℕ = area_start image in
    let p = managers_parts image slot paired m in
    let here = body_place slot (u32_at image slot) (start + total p.before) p.chunk p.holds.1 in
    let at : place - 8 ≡ start + total p.before = omega arith in
    let read : chunk_at image (place - 8) ≡ Some p.chunk = ap (chunk_at image) at
    ∙ parts_read (Both image slot) image (chunks_of image) paired.tiles p in (
      omega arith,
      subst (λ (c : Option Chunk). ManagersAt c) (sym read)
          (managers_at slot (start + total p.before) p.chunk p.holds.2),
    )

pub directory_decided : (image : List ℕ) (word place : ℕ) → IsPaired image
    → word ≡ directory_of image → word ≢ 0 → IsSlot image word → place ≡ u32_at image word
    → (IsManagersBody image place ↔ HasDirectory image (chunks_of image))
directory_decided image word place paired is some s at = (
  λ d. inr (subst (λ (w : ℕ). AnyPlaced (ManagersHere w) (area_start image) (chunks_of image)) is
      (there image word place paired s at d)),
  λ h. elim h [
    | inl none ↦ absurd (some (is ∙ none))
    | inr m ↦ back image word place paired at
        (subst (λ (w : ℕ). AnyPlaced (ManagersHere w) (area_start image) (chunks_of image))
        (sym is) m)
  ],
)

pub no_directory : (image : List ℕ) (word : ℕ) → IsPaired image → word ≡ directory_of image
    → word ≢ 0 → (IsSlot image word → ⊥) → HasDirectory image (chunks_of image) → ⊥
no_directory image word paired is some none h = elim h [
  | inl zero_word ↦ some (is ∙ zero_word)
  | inr m ↦ none (subst (λ (w : ℕ). IsSlot image w) (sym is)
      (directory_slot image (directory_of image) paired m))
]
