-- A lent part of a region, as a caller in C holds it.
use Rattle.std.specs.Prelude.{◌≡◌, ◌<◌, ◌^◌, ℕ, List, [], length, Option, Some, None}
use base.Fml.{Fml, ftrue}
use denote.RawPtr.{Ptr}
use Rattle.raw_region.specs.Ownership.{owns_bytes}
use Rattle.raw_region.specs.Parts.{PartOut}

-- What a place for a part owns: the bytes of a part, or nothing.
abbrev pub owns_part : Ptr → ℕ → Option (List ℕ) → Fml
owns_part at count None = ftrue
owns_part at count (Some bytes) = owns_bytes at count bytes

-- the bytes of a place that holds a part, or else none
abbrev pub bytes_in : Option (List ℕ) → List ℕ
bytes_in None = []
bytes_in (Some bytes) = bytes

-- the place holds a part
abbrev pub IsFull : Option (List ℕ) → Type 0
IsFull values = values ≡ Some (bytes_in values)

-- the count is that of the bytes of a place that holds a part
abbrev pub IsSized : ℕ → Option (List ℕ) → Type 0
IsSized count values = IsFull values → (count ≡ length (bytes_in values)) × (count < 2 ^ 63)

-- the part of a place that holds one: its bytes and their start
abbrev pub part_in : Ptr → Option (List ℕ) → PartOut
part_in at values = record { bytes = bytes_in values; start = at }
