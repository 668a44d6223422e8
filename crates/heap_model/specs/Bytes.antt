-- Big-endian numbers in a list of bytes, and the bytes after a write.
use Rattle.std.specs.Prelude.{◌<◌, ◌+◌, ◌-◌, ◌++◌, ℕ, List, length, take, drop, replicate, slice_index}
use Rattle.byteorder.specs.Endian.{big_from, big_bytes}

-- the number in the two bytes at an offset; a byte beyond the end counts as zero
unfoldable pub u16_at : List ℕ → ℕ → ℕ
u16_at bytes at = big_from at 2 bytes

-- the number in the three bytes at an offset; a byte beyond the end counts as zero
unfoldable pub u24_at : List ℕ → ℕ → ℕ
u24_at bytes at = big_from at 3 bytes

-- the number in the four bytes at an offset; a byte beyond the end counts as zero
unfoldable pub u32_at : List ℕ → ℕ → ℕ
u32_at bytes at = big_from at 4 bytes

-- the lowest two bytes of a number
unfoldable pub u16_bytes : ℕ → List ℕ
u16_bytes number = big_bytes 2 number

-- the lowest three bytes of a number
unfoldable pub u24_bytes : ℕ → List ℕ
u24_bytes number = big_bytes 3 number

-- the lowest four bytes of a number
unfoldable pub u32_bytes : ℕ → List ℕ
u32_bytes number = big_bytes 4 number

-- each number of the list is a byte
abbrev pub AreBytes : List ℕ → Type 0
AreBytes bytes = (k : ℕ) → slice_index bytes k < 256

-- a list of bytes after others are written over it, from an offset on, if they fit there
unfoldable pub overwritten : List ℕ → ℕ → List ℕ → List ℕ
overwritten old at bytes = take at old ++ bytes ++ drop (at + length bytes) old

-- the first `count` bytes of a list; a shorter list gets zeros after it, up to `count` bytes
abbrev pub sized_to : List ℕ → ℕ → List ℕ
sized_to bytes count = take count bytes ++ replicate (count - length bytes) 0
