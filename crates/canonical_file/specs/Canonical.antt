-- The canonical form of a file.
use Rattle.std.specs.Prelude.{◌≡◌, ◌≤◌, ◌++◌, ◌-◌, ℕ, Bool, true, List, length, map, slice_range, Option}
use Rattle.std.specs.List.{flat_map}
use Rattle.palm_text.specs.Counted.{Writing, Writes}
use Rattle.heap_model.specs.UniqueIds.{greatest_id, seed_in}
use Rattle.heap_model.specs.Database.{Database, Entry, entry_with, header_in, database_in}
use Rattle.heap_model.specs.Store.{unique_ids}
use Rattle.heap_model.specs.Files.{HasNoFault, HaveIds, IsFirstFault, Reads, blocks_in, idle_entry, block_bytes, block_offset, file_of}
use Rattle.pdb_format.specs.Blocks.{bytes_at, places_in}
use Rattle.pdb_format.specs.Opened.{most_file_bytes}
use Rattle.pdb_format.specs.ReadFiles.{HasIdsFor}
use Rattle.pdb_format.specs.declared.blocks.Block.{Block}
use Rattle.file_ids.specs.declared.give.GivenIds.{GivenIds}
use Rattle.canonical_file.specs.declared.canonical.CanonicalFault.{CanonicalFault}
use Rattle.canonical_file.specs.declared.canonical.CanonicalFault.TheVariants.{BadFile, OutOfMemory, Write}

-- ---- the canonical form

-- these bytes are the file that is written for the database that is read from the original file
pub record IsCanonical (file bytes : List ℕ) : Type 0 where
  pub database : Database (Option (List ℕ))
  pub reads : Reads file database
  pub written : bytes ≡ file_of database

-- The most bytes that a file may have that is rewritten. A canonical form has at most two bytes more
-- than the file, so it is at most as large as a file may be.
abbrev pub most_bytes : ℕ
most_bytes = most_file_bytes - 2

-- bytes with a property go to a writer: all of them if `ok`, or else a prefix of them
abbrev pub WritesOne : {W : Type 0} → (List ℕ → Type 0) → (W → Option (List ℕ)) → Writing W → Writing W → Bool → Type 0
WritesOne Is contents old new ok = (bytes : List ℕ) × Is bytes × Writes contents old new bytes ok

-- all of some bytes with a property went to a writer, and they are `count` bytes
abbrev pub WroteOne : {W : Type 0} → (List ℕ → Type 0) → (W → Option (List ℕ)) → Writing W → Writing W → ℕ → Type 0
WroteOne Is contents old new count = (bytes : List ℕ) × Is bytes × (count ≡ length bytes) × Writes contents old new bytes true

-- the canonical form of a file goes to a writer
abbrev pub WritesCanonical : {W : Type 0} → List ℕ → (W → Option (List ℕ)) → Writing W → Writing W → Bool → Type 0
WritesCanonical file contents old new ok = WritesOne (IsCanonical file) contents old new ok

-- all of the canonical form went to a writer, and it has `count` bytes
abbrev pub WroteCanonical : {W : Type 0} → List ℕ → (W → Option (List ℕ)) → Writing W → Writing W → ℕ → Type 0
WroteCanonical file contents old new count = WroteOne (IsCanonical file) contents old new count

-- the reason why a file has no canonical form
abbrev pub IsCanonicalFault : List ℕ → CanonicalFault → Type 0
IsCanonicalFault file (BadFile fault) = IsFirstFault file fault
IsCanonicalFault file OutOfMemory = HasNoFault file
IsCanonicalFault file Write = HasNoFault file

-- ---- its parts

-- the file's records get these IDs
pub record GetsIds (file : List ℕ) (given : GivenIds) : Type 0 where
  pub have : HaveIds (seed_in (header_in file).seed) (unique_ids (database_in file)) given.ids.items given.seed
  pub fit : HasIdsFor file given.ids.items
  pub seed : given.seed ≤ greatest_id

-- an entry as it is written to a file: not busy, with its data at an offset
abbrev pub placed_entry : ℕ → Entry (Option (List ℕ)) → Entry ℕ
placed_entry at entry = entry_with (block_offset at) (idle_entry entry)

-- the bytes at the places of blocks, one block after the other
abbrev pub blocks_at : List ℕ → List (Option Block) → List ℕ
blocks_at source blocks = flat_map block_bytes (map (bytes_at source) blocks)

-- a source of the same size as a file, with the same bytes in each block of the file
pub record HasBlocksOf (file source : List ℕ) : Type 0 where
  pub size : length source ≡ length file
  pub are : map (bytes_at source) (places_in file) ≡ blocks_in file

-- the bytes of a run of neighbouring blocks
abbrev pub run_bytes : List ℕ → Block → List ℕ
run_bytes file run = slice_range file run.start run.end

-- The bytes of a run, and those of the block after it: a part of them was written, and the rest is
-- the next run.
pub record Continues {W : Type 0} (file : List ℕ) (contents : W → Option (List ℕ)) (old new : Writing W) (run : Block) (block : Option Block) (next : Block) : Type 0 where
  pub text : List ℕ
  pub writes : Writes contents old new text true
  pub parts : run_bytes file run ++ block_bytes (bytes_at file block) ≡ text ++ run_bytes file next
