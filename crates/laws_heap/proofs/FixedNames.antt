-- The names of fixed chunks. A fixed chunk's name is the place of its body; no other file takes
-- that apart.
use Rattle.laws_heap.proofs.Words.{◌≡◌, ◌≢◌, ℕ, ◌+◌, ◌<◌, true, false, List, refl, sym, ap, ◌∙◌, arith, inl, inr, Decides-and, Decides-eqb, Decides-ltb, Decides, fixed, fixed_lock, LiveChunk, NamedHere, is_fixed_name, NotFixedAs}
use Rattle.laws_heap.proofs.Tests.{true_or_false}

-- the name of a fixed chunk at an offset
abbrev pub fixed_name : ℕ → ℕ
fixed_name at = at + 8

-- what its name stands for
abbrev pub fixed_live : List ℕ → ℕ → LiveChunk
fixed_live bytes owner = record { bytes = bytes; lock = fixed_lock; owner = owner }

-- ---- what its name is

pub fixed_has_name : (at : ℕ) (bytes : List ℕ) (owner : ℕ) → 0 < owner
    → NamedHere (fixed_name at) (fixed_live bytes owner) at (fixed bytes owner)
fixed_has_name at bytes owner some = (refl, refl, some)

pub fixed_name_is : {name : ℕ} {live : LiveChunk} (at : ℕ) (bytes : List ℕ) (owner : ℕ)
    → NamedHere name live at (fixed bytes owner) → fixed_name at ≡ name
fixed_name_is at bytes owner n = n.0

pub fixed_live_is : {name : ℕ} {live : LiveChunk} (at : ℕ) (bytes : List ℕ) (owner : ℕ)
    → NamedHere name live at (fixed bytes owner) → fixed_live bytes owner ≡ live
fixed_live_is at bytes owner n = n.1

-- it is a caller's, as a table has no name
pub fixed_owned : {name : ℕ} {live : LiveChunk} (at : ℕ) (bytes : List ℕ) (owner : ℕ)
    → NamedHere name live at (fixed bytes owner) → 0 < owner
fixed_owned at bytes owner n = n.2

-- where its body is
pub fixed_place : (at : ℕ) → fixed_name at ≡ at + 8
fixed_place at = refl

-- two at different places have different names
pub fixed_once : (at other : ℕ) → fixed_name at ≡ fixed_name other → at ≡ other
fixed_once at other e = omega arith

-- it is not the name 0
pub fixed_some : (at : ℕ) → fixed_name at ≢ 0
fixed_some at e = absurd (omega arith)

-- ---- where it has other bytes, or another owner

pub fixed_with_bytes : {name : ℕ} {live : LiveChunk} (at : ℕ) (bytes : List ℕ) (owner : ℕ)
    (change : List ℕ → List ℕ) → NamedHere name live at (fixed bytes owner)
    → NamedHere name (record live { bytes = change live.bytes }) at (fixed (change bytes) owner)
fixed_with_bytes at bytes owner change n =
    (n.0, ap (λ (l : LiveChunk). record l { bytes = change l.bytes }) n.1, n.2)

pub fixed_with_owner : {name : ℕ} {live : LiveChunk} (at : ℕ) (bytes : List ℕ) (owner new : ℕ)
    → 0 < new → NamedHere name live at (fixed bytes owner)
    → NamedHere name (record live { owner = new }) at (fixed bytes new)
fixed_with_owner at bytes owner new some n =
    (n.0, ap (λ (l : LiveChunk). record l { owner = new }) n.1, some)

-- ---- the test

Decides-fixed : (at owner name : ℕ)
    → Decides (is_fixed_name at owner name) ((at + 8 ≡ name) × (0 < owner))
Decides-fixed at owner name = Decides-and _ _ (Decides-eqb (at + 8) name) (Decides-ltb 0 owner)

-- a table has no name
pub table_unnamed : (at name : ℕ) → is_fixed_name at 0 name ≡ false
table_unnamed at name = elim (true_or_false (is_fixed_name at 0 name)) [
  | inl is ↦ (let some = ((Decides-fixed at 0 name).0 is).1 in absurd (omega arith))
  | inr isnt ↦ isnt
]

pub fixed_test : {name : ℕ} {live : LiveChunk} (at : ℕ) (bytes : List ℕ) (owner : ℕ)
    → NamedHere name live at (fixed bytes owner) → is_fixed_name at owner name ≡ true
fixed_test {name} at bytes owner n = (Decides-fixed at owner name).1 (n.0, n.2)

pub fixed_tested : (name at : ℕ) (bytes : List ℕ) (owner : ℕ) → is_fixed_name at owner name ≡ true
    → NamedHere name (fixed_live bytes owner) at (fixed bytes owner)
fixed_tested name at bytes owner is =
    let both = (Decides-fixed at owner name).0 is in
    (both.0, refl, both.1)

pub fixed_other : {name : ℕ} {live : LiveChunk} (at : ℕ) (bytes : List ℕ) (owner other : ℕ)
    → NamedHere name live at (fixed bytes owner) → other ≢ name
    → is_fixed_name at owner other ≡ false
fixed_other at bytes owner other n apart = elim (true_or_false (is_fixed_name at owner other)) [
  | inl is ↦ absurd (apart (sym ((Decides-fixed at owner other).0 is).0 ∙ n.0))
  | inr isnt ↦ isnt
]

-- ---- where no fixed chunk has the name

pub fixed_not : {name : ℕ} {live : LiveChunk} (at : ℕ) (bytes : List ℕ) (owner : ℕ)
    → NamedHere name live at (fixed bytes owner) → NotFixedAs name at (fixed bytes owner) → ⊥
fixed_not at bytes owner n none = none n.2 n.0

pub not_fixed_as : (name at : ℕ) (bytes : List ℕ) (owner : ℕ) → fixed_name at ≢ name
    → NotFixedAs name at (fixed bytes owner)
not_fixed_as name at bytes owner apart some = apart
