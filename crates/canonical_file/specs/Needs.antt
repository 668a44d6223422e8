-- The part of a heap that the databases of files take.
use Rattle.std.specs.Prelude.{◌≡◌, ◌+◌, ◌*◌, ◌^◌, ℕ, List, ◌∷◌, length, min, Option, Some, None}
use Rattle.std.specs.List.{sum_by}
use Rattle.heap_model.specs.Chunk.{need}
use Rattle.heap_model.specs.Slots.{start_behind}
use Rattle.heap_model.specs.Store.{listed_size}
use Rattle.heap_model.specs.Files.{entries_end}
use Rattle.heap_model.specs.FileSteps.{block_sizes}
use Rattle.canonical_file.specs.declared.needs.Needs.{Needs}

-- ---- one file

-- The sizes of the chunks of a file's database in bytes: its header with the list of its entries,
-- and each block that the file has.
abbrev pub chunk_sizes : List ℕ → List (Option ℕ)
chunk_sizes file = Some (entries_end file) ∷ block_sizes file

-- the bytes that a chunk takes with its header and the rounding, if there is one
abbrev pub chunk_need : Option ℕ → ℕ
chunk_need None = 0
chunk_need (Some size) = need size

-- the slots that a chunk takes: 1 if there is one
abbrev pub chunk_slots : Option ℕ → ℕ
chunk_slots None = 0
chunk_slots (Some size) = 1

-- the bytes of chunks that a file's database takes, and its slots
abbrev pub file_bytes : List ℕ → ℕ
file_bytes file = sum_by chunk_need (chunk_sizes file)

abbrev pub file_slots : List ℕ → ℕ
file_slots file = sum_by chunk_slots (chunk_sizes file)

pub record AreNeeds (file : List ℕ) (needs : Needs) : Type 0 where
  pub bytes : needs.bytes ≡ file_bytes file
  pub slots : needs.slots ≡ file_slots file

-- ---- images

-- the bytes that the directory of `count` databases takes
abbrev pub directory_need : ℕ → ℕ
directory_need count = need (listed_size * count)

-- The least number of slots of an image with the databases of these files: one for the directory,
-- and one for each chunk.
abbrev pub least_slots : List (List ℕ) → ℕ
least_slots files = 1 + sum_by file_slots files

-- The size of an image that is full with `slots` slots, a directory of `count` databases and
-- `bytes` bytes of other chunks.
abbrev pub full_size : (slots count bytes : ℕ) → ℕ
full_size slots count bytes = start_behind slots + directory_need count + bytes

-- the least size of an image that has `slots` slots and the databases of these files
abbrev pub least_size_for : ℕ → List (List ℕ) → ℕ
least_size_for slots files = full_size slots (length files) (sum_by file_bytes files)

-- ---- sums

-- No heap has as many bytes or slots. Sums stop at this number.
abbrev pub enough : ℕ
enough = 2 ^ 32

-- the needs of the databases of these files together, where each sum stops at `enough`
pub record AreNeedsOf (files : List (List ℕ)) (needs : Needs) : Type 0 where
  pub bytes : needs.bytes ≡ min enough (sum_by file_bytes files)
  pub slots : needs.slots ≡ min enough (sum_by file_slots files)
