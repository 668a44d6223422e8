-- The bytes of a region: bytes in a row, except for those that are lent.
use Rattle.std.specs.Prelude.{◌≡◌, ◌+◌, ◌≤◌, ◌&&◌, ◌||◌, ◌==◌, if◌then◌else◌, nat_le, nat_lt, ℕ, Bool, false, List, [], ◌∷◌, Option, Some, None}
use denote.RawPtr.{Ptr, ◌+ₚ◌}
use Rattle.heap_model.specs.Memory.{Lent, EachLent, AreApart}

-- an offset lies in the `count` bytes at `at`
abbrev pub is_offset_of : ℕ → ℕ → ℕ → Bool
is_offset_of at count offset = nat_le at offset && nat_lt offset (at + count)

-- the byte at an offset is lent
abbrev pub is_out : List Lent → ℕ → Bool
is_out [] offset = false
is_out (lent ∷ lents) offset = is_offset_of lent.at lent.count offset || is_out lents offset

-- a part is lent, of bytes that start at a pointer
abbrev pub lent_at : Ptr → ℕ → ℕ → Lent
lent_at start at count = record { at = at; count = count; start = start +ₚ at }

-- a lent part lies within the `size` bytes at a pointer
pub record LiesIn (start : Ptr) (size : ℕ) (lent : Lent) : Type 0 where
  pub inside : lent.at + lent.count ≤ size
  pub there : lent.start ≡ start +ₚ lent.at

-- Each lent part does. So its offset is the distance of its start to that pointer.
abbrev pub AllLieIn : Ptr → ℕ → List Lent → Type 0
AllLieIn start size lents = EachLent (LiesIn start size) lents

abbrev pub KnowsLents : Ptr → ℕ → List Lent → Type 0
KnowsLents start size lents = AllLieIn start size lents × AreApart lents

-- the length of the first of some lent parts that begins at an offset
abbrev pub count_at : ℕ → List Lent → Option ℕ
count_at at [] = None
count_at at (lent ∷ lents) = if lent.at == at then Some lent.count else count_at at lents
