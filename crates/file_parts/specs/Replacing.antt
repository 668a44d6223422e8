-- A file with one of its blocks replaced. All else is as it is: the attributes, the IDs, the name
-- field, the filler and the order of the blocks. Only offsets move.
use Rattle.std.specs.Prelude.{◌≡◌, ◌≤◌, ◌<◌, ◌+◌, ◌==◌, if◌then◌else◌, is_some, ⊤, ℕ, Bool, true, false, List, [], ◌∷◌, length, slice_index_or, Option, Some, None}
use Rattle.heap_model.specs.Bytes.{AreBytes}
use Rattle.heap_model.specs.Database.{Entry, entry_with}
use Rattle.heap_model.specs.Files.{blocks_in}
use Rattle.canonical_file.specs.Canonical.{most_bytes}
use Rattle.file_parts.specs.Exact.{ExactFile, IsExactly, exact_bytes, exact_size, is_misplaced}
use Rattle.file_parts.specs.ExactUnpacking.{IsUnpackedExact, exact_of}
use Rattle.file_parts.specs.ExactWriting.{AreExactPlaces}
use Rattle.file_parts.specs.declared.exact_writing.PlaceFault.{PlaceFault}
use Rattle.file_parts.specs.declared.exact_writing.PlaceFault.TheVariants as places
use Rattle.file_parts.specs.declared.replaced.Replaced.{Replaced}
use Rattle.file_parts.specs.declared.replaced.ReplaceFault.{ReplaceFault}
use Rattle.file_parts.specs.declared.replaced.ReplaceFault.TheVariants.{TooLarge, EmptyPart, OutOfMemory}
use Rattle.file_parts.specs.declared.replaced.Replacing.{Replacing}

-- ---- the file

-- the block of a rank, once that of the rank `at` has these bytes
abbrev pub block_replaced : ℕ → List ℕ → ℕ → Option (List ℕ) → Option (List ℕ)
block_replaced at bytes rank block = if rank == at then Some bytes else block

-- entries with their blocks; the first entry has this rank
abbrev pub entries_replaced : ℕ → List ℕ → ℕ → List (Entry (Option (List ℕ))) → List (Entry (Option (List ℕ)))
entries_replaced at bytes rank [] = []
entries_replaced at bytes rank (entry ∷ entries) = entry_with (block_replaced at bytes rank) entry ∷ entries_replaced at bytes (rank + 1) entries

-- a file whose block of the rank `at` has these bytes
abbrev pub file_replaced : ExactFile → ℕ → List ℕ → ExactFile
file_replaced exact at bytes = record {
  database = record {
    header = exact.database.header;
    app_info = block_replaced at bytes 0 exact.database.app_info;
    sort_info = block_replaced at bytes 1 exact.database.sort_info;
    entries = entries_replaced at bytes 2 exact.database.entries;
  };
  after_name = exact.after_name;
  filler = exact.filler;
  order = exact.order;
}

-- the block of a rank of a file, and whether the file has it
abbrev pub block_in : List ℕ → ℕ → Option (List ℕ)
block_in file rank = slice_index_or (blocks_in file) rank None

abbrev pub has_block_of_rank : List ℕ → ℕ → Bool
has_block_of_rank file rank = is_some (block_in file rank)

-- These bytes are those of the file with the block of the rank `at` replaced by the part. They are
-- a file without fault, and it is exactly this one. If the part is the block that the file has, they
-- are the file.
pub record Replaces (file : List ℕ) (at : ℕ) (part bytes : List ℕ) : Type 0 where
  pub exact : ExactFile
  pub exactly : IsExactly file exact
  pub there : has_block_of_rank file at ≡ true
  pub is : bytes ≡ exact_bytes (file_replaced exact at part)
  pub fits : length bytes ≤ most_bytes
  pub read : IsExactly bytes (file_replaced exact at part)
  pub same : block_in file at ≡ Some part → bytes ≡ file

-- the reason why no block is replaced
abbrev pub IsReplaceFault : List ℕ → ℕ → List ℕ → ReplaceFault → Type 0
IsReplaceFault file at part TooLarge = (exact : ExactFile) × IsExactly file exact × (most_bytes < exact_size (file_replaced exact at part))
IsReplaceFault file at part EmptyPart = (length part ≡ 0) × ((exact : ExactFile) × IsExactly file exact × ((index : ℕ) × (is_misplaced (file_replaced exact at part) index ≡ true)))
IsReplaceFault file at part OutOfMemory = ⊤

-- the same if the file isn't laid out
abbrev pub size_fault : PlaceFault → ReplaceFault
size_fault places.TooLarge = TooLarge
size_fault places.OutOfMemory = OutOfMemory

-- ---- the steps

-- the file has no fault, and the block
pub record IsReplacing (replacing : Replacing) : Type 0 where
  pub good : IsUnpackedExact replacing.unpacked
  pub numbers : AreBytes replacing.unpacked.file
  pub there : has_block_of_rank replacing.unpacked.file replacing.at ≡ true

-- the file with the block replaced
abbrev pub exact_replacing : Replacing → ExactFile
exact_replacing replacing = file_replaced (exact_of replacing.unpacked) replacing.at replacing.part.now

-- a file that is ready to be written
pub record IsReplaced (replaced : Replaced) : Type 0 where
  pub good : IsReplacing replaced.replacing
  pub placed : (index : ℕ) → is_misplaced (exact_replacing replaced.replacing) index ≡ false
  pub places : AreExactPlaces (exact_replacing replaced.replacing) replaced.places

-- its bytes
abbrev pub bytes_replaced : Replaced → List ℕ
bytes_replaced replaced = exact_bytes (exact_replacing replaced.replacing)
