-- Exact files that are written: the offsets of their blocks, and the reason why none is written.
use Rattle.std.specs.Prelude.{◌≡◌, ◌≤◌, ◌<◌, ⊤, ℕ, length, slice_index_or, None}
use Rattle.heap_model.specs.Lists.{times}
use Rattle.heap_model.specs.Database.{Entry, a_record, data_in, entry_with}
use Rattle.canonical_file.specs.Canonical.{most_bytes}
use Rattle.file_parts.specs.Exact.{ExactFile, exact_size}
use Rattle.file_parts.specs.ExactListed.{AreOffsets}
use Rattle.file_parts.specs.declared.exact_writing.Places.{Places}
use Rattle.file_parts.specs.declared.exact_writing.PlaceFault.{PlaceFault}
use Rattle.file_parts.specs.declared.exact_writing.PlaceFault.TheVariants.{TooLarge, OutOfMemory}

-- each rank of the order is one of the file's, and is there once
pub record IsOrdered (exact : ExactFile) : Type 0 where
  pub inside : (rank : ℕ) → 0 < times rank exact.order → rank < length (data_in exact.database)
  pub once : (rank : ℕ) → times rank exact.order ≤ 1

-- the values of the entry at an index; its data may be any
abbrev pub HasValuesAt : ExactFile → ℕ → Entry ℕ → Type 0
HasValuesAt exact index entry = (at : ℕ) → entry_with (λ _. at) entry ≡ entry_with (λ _. at) (slice_index_or exact.database.entries index (a_record 0 0 None))

-- the offsets of the blocks of a file that isn't too large, and its size
pub record AreExactPlaces (exact : ExactFile) (places : Places) : Type 0 where
  pub offsets : AreOffsets exact places.offsets.items
  pub size : places.size ≡ exact_size exact
  pub fits : places.size ≤ most_bytes

-- the reason why a file of this size isn't laid out
abbrev pub IsPlaceFault : ℕ → PlaceFault → Type 0
IsPlaceFault size TooLarge = most_bytes < size
IsPlaceFault size OutOfMemory = ⊤
