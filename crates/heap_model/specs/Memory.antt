-- A region of memory, as contracts see it. Any number of its parts can be lent.
use Rattle.std.specs.Prelude.{◌≡◌, ◌≢◌, ◌≤◌, ◌+◌, ◌⊎◌, ◌==◌, if◌then◌else◌, ℕ, List, [], ◌∷◌, length}
use denote.RawPtr.{Ptr}

-- A lent part of a memory: `count` bytes from the offset `at` on. `start` is its address in the
-- machine's memory, which tells it apart from parts of other regions.
pub record Lent : Type 0 where
  pub at : ℕ
  pub count : ℕ
  pub start : Ptr

-- A memory: its bytes in order, how many bytes were slid over all slides so far, and its lent
-- parts, the newest first. The bytes of a lent part are zeros in `bytes`. Each byte is below 256; the
-- definitions over lists of bytes don't repeat this.
pub record Memory : Type 0 where
  pub bytes : List ℕ
  pub slid : ℕ
  pub lents : List Lent

-- the property is true of each lent part
abbrev pub EachLent : (Lent → Type 0) → List Lent → Type 0
EachLent P [] = Unit {0}
EachLent P (lent ∷ lents) = P lent × EachLent P lents

-- the part is one of those that are lent
abbrev pub IsAmong : Lent → List Lent → Type 0
IsAmong lent [] = ⊥
IsAmong lent (other ∷ lents) = (other ≡ lent) ⊎ IsAmong lent lents

-- the property is true of a lent part
abbrev pub SomeLent : (Lent → Type 0) → List Lent → Type 0
SomeLent P [] = ⊥
SomeLent P (lent ∷ lents) = P lent ⊎ SomeLent P lents

-- the `count` bytes from the offset `at` on don't overlap this lent part
abbrev pub MissesOne : ℕ → ℕ → Lent → Type 0
MissesOne at count lent = (at + count ≤ lent.at) ⊎ (lent.at + lent.count ≤ at)

-- these bytes don't overlap any lent part
abbrev pub Misses : List Lent → ℕ → ℕ → Type 0
Misses lents at count = EachLent (MissesOne at count) lents

-- no lent part begins at an offset
abbrev pub NoneBegins : ℕ → List Lent → Type 0
NoneBegins at lents = EachLent (λ lent. lent.at ≢ at) lents

-- two lent parts don't overlap, and begin at different offsets
pub record AreBeside (lent other : Lent) : Type 0 where
  pub misses : MissesOne lent.at lent.count other
  pub differs : other.at ≢ lent.at

-- no two of these parts overlap, or begin at the same offset
abbrev pub AreApart : List Lent → Type 0
AreApart [] = Unit {0}
AreApart (lent ∷ lents) = EachLent (AreBeside lent) lents × AreApart lents

-- these parts without the first one that begins at an offset
abbrev pub without : ℕ → List Lent → List Lent
without at [] = []
without at (lent ∷ lents) = if lent.at == at then lents else lent ∷ without at lents

-- The `count` bytes from the offset `at` on may be read and written: they lie within the memory,
-- and don't overlap its lent parts. Every access requires this.
pub record IsWithin (memory : Memory) (at count : ℕ) : Type 0 where
  pub inside : at + count ≤ length memory.bytes
  pub misses : Misses memory.lents at count
