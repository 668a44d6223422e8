-- The lent parts of a region, as contracts see them.
use Rattle.std.specs.Prelude.{◌≡◌, ℕ, List, length}
use denote.RawPtr.{Ptr}
use Rattle.heap_model.specs.Memory.{Lent, SomeLent}

-- the bytes of the part, and their start in the machine's memory
pub record PartOut : Type 0 where
  pub bytes : List ℕ
  pub start : Ptr

-- the part is the lent one at an offset: it starts where that one starts, and has its length
pub record IsPart (at : ℕ) (part : PartOut) (lent : Lent) : Type 0 where
  pub there : lent.at ≡ at
  pub start : part.start ≡ lent.start
  pub count : length part.bytes ≡ lent.count

-- the part is one of those that are lent, that at an offset
abbrev pub IsOut : List Lent → ℕ → PartOut → Type 0
IsOut lents at part = SomeLent (IsPart at part) lents
