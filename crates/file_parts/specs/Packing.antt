-- The file that is put together from parts.
use Rattle.std.specs.Prelude.{◌≡◌, ◌+◌, ◌≤◌, ◌<◌, ⊤, ℕ, List, [], ◌∷◌, ◌++◌, length, slice_index_or, Option, Some, None}
use Rattle.heap_model.specs.Database.{Database, Entry, data_in, entry_with}
use Rattle.heap_model.specs.Files.{block_size, file_of, first_block}
use Rattle.pdb_format.specs.FileTexts.{blocks_text}
use Rattle.pdb_format.specs.Writable.{file_size}
use Rattle.canonical_file.specs.Canonical.{most_bytes}
use Rattle.file_parts.specs.Listed.{IsListed, database_listed, entries_listed}
use Rattle.file_parts.specs.declared.entries.ListedEntry.{ListedEntry}
use Rattle.file_parts.specs.declared.listed.Listed.{Listed}
use Rattle.file_parts.specs.declared.packing.FileHead.{FileHead}
use Rattle.file_parts.specs.declared.packing.Places.{Places}
use Rattle.file_parts.specs.declared.packing.PackFault.{PackFault}
use Rattle.file_parts.specs.declared.packing.PackFault.TheVariants.{TooLarge, BadLine, OutOfMemory}

-- the bytes of a part, if there is one
abbrev pub filled : List ℕ → Option (List ℕ) → Option (List ℕ)
filled bytes None = None
filled bytes (Some name) = Some bytes

-- the bytes of the part of a rank
abbrev pub part_at : List (List ℕ) → ℕ → List ℕ
part_at parts rank = slice_index_or parts rank []

-- entries with their data; the first entry has the part of this rank
abbrev pub filled_entries : List (List ℕ) → ℕ → List (Entry (Option (List ℕ))) → List (Entry (Option (List ℕ)))
filled_entries parts rank [] = []
filled_entries parts rank (entry ∷ entries) = entry_with (filled (part_at parts rank)) entry ∷ filled_entries parts (rank + 1) entries

-- the entries of a list with their data
abbrev pub packed_entries : List ListedEntry → List (List ℕ) → List (Entry (Option (List ℕ)))
packed_entries items parts = filled_entries parts 2 (entries_listed items)

-- the database with the bytes of these parts as its data, by their ranks; where the database has no
-- part, there is no data
abbrev pub with_parts : List (List ℕ) → Database (Option (List ℕ)) → Database (Option (List ℕ))
with_parts parts database = record {
  header = database.header;
  app_info = filled (part_at parts 0) database.app_info;
  sort_info = filled (part_at parts 1) database.sort_info;
  entries = filled_entries parts 2 database.entries;
}

-- the listed database is good, and there is a part for each of its ranks
pub record HasPartsOf (listed : Listed) (parts : List (List ℕ)) : Type 0 where
  pub good : IsListed listed
  pub count : length parts ≡ length (data_in (database_listed listed))

-- the database with the bytes of the parts
abbrev pub database_of_parts : Listed → List (List ℕ) → Database (Option (List ℕ))
database_of_parts listed parts = with_parts parts (database_listed listed)

-- the bytes before the blocks in the file of a database with these parts, and the size of the file,
-- which isn't too large
pub record IsHeadOf (listed : Listed) (parts : List (List ℕ)) (head : FileHead) : Type 0 where
  pub has : HasPartsOf listed parts
  pub file : file_of (database_of_parts listed parts) ≡ head.bytes.items ++ blocks_text (database_of_parts listed parts)
  pub size : head.size ≡ file_size (database_of_parts listed parts)
  pub most : file_size (database_of_parts listed parts) ≤ most_bytes

-- the offsets at which the blocks of the file of a database begin
pub record AreBlockPlaces (database : Database (Option (List ℕ))) (places : Places) : Type 0 where
  pub app : places.app ≡ first_block database
  pub sort : places.sort ≡ first_block database + block_size database.app_info
  pub entries : places.entries ≡ first_block database + block_size database.app_info + block_size database.sort_info
  pub most : places.entries ≤ most_bytes

-- a file of this size is refused as too large only if it has more than `most_bytes` bytes
abbrev pub IsRefusedFor : ℕ → PackFault → Type 0
IsRefusedFor size TooLarge = most_bytes < size
IsRefusedFor size (BadLine fault) = ⊥
IsRefusedFor size OutOfMemory = ⊤
