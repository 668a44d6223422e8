-- The statements of the laws about salvaged files.
use Rattle.std.specs.Prelude.{◌≡◌, ◌≤◌, ◌<◌, ◌↔◌, ℕ, true, List, [], length, slice_range, Option, Some, None}
use Rattle.std.specs.List.{Contains}
use Rattle.heap_model.specs.Bytes.{AreBytes}
use Rattle.heap_model.specs.DatabaseFields.{header_size}
use Rattle.heap_model.specs.Database.{Database, Entry, entry_data, entry_in}
use Rattle.heap_model.specs.Files.{HasNoFault, IsReadAs, Reads, file_of}
use Rattle.canonical_file.specs.Canonical.{IsCanonical, most_bytes}
use Rattle.canonical_file.specs.Salvage.{IsSalvaged, Salvages, is_sound_entry, salvage_lines, whole_entries}
use Rattle.canonical_file.specs.declared.salvage.SalvagedIds.{SalvagedIds}
use Rattle.canonical_file.specs.declared.salvage.SalvagedIds.TheVariants.{Distinct}

-- what is salvaged from a file without fault is its canonical form, if the IDs are to be distinct
abbrev pub GoodFilesAreCanonical : Type 0
GoodFilesAreCanonical = (file bytes : List ℕ) → HasNoFault file → (Salvages Distinct file bytes ↔ IsCanonical file bytes)

-- a file with a header has no fault exactly if there is no line about it
abbrev pub GoodFilesHaveNoLine : Type 0
GoodFilesHaveNoLine = (file : List ℕ) → header_size ≤ length file → ((salvage_lines file ≡ []) ↔ HasNoFault file)

-- what is salvaged from a file of bytes has no fault
abbrev pub SalvagedFilesHaveNoFault : Type 0
SalvagedFilesHaveNoFault =
    (rule : SalvagedIds) (file bytes : List ℕ) → AreBytes file → header_size ≤ length file → length file ≤ most_bytes → Salvages rule file bytes → HasNoFault bytes

-- and it is read as the database that is salvaged, if the IDs are distinct
abbrev pub SalvagedFilesAreRead : Type 0
SalvagedFilesAreRead =
    (file : List ℕ) (database : Database (Option (List ℕ))) → AreBytes file → header_size ≤ length file → length file ≤ most_bytes → IsSalvaged Distinct file database → Reads (file_of database) database

-- the data are the bytes of a file from an offset on; without data the offset is 0
abbrev pub AreFrom : List ℕ → ℕ → Option (List ℕ) → Type 0
AreFrom file at None = at ≡ 0
AreFrom file at (Some bytes) = (end : ℕ) × (at ≤ end) × (end ≤ length file) × (bytes ≡ slice_range file at end)

-- an entry of the file, which is sound there
pub record IsKeptFrom (file : List ℕ) (entry : Entry (Option (List ℕ))) : Type 0 where
  pub index : ℕ
  pub whole : index < whole_entries file
  pub sound : is_sound_entry file (entry_in file index) ≡ true
  pub values : IsReadAs (entry_in file index) entry
  pub bytes : AreFrom file (entry_data (entry_in file index)) (entry_data entry)

-- each entry that is salvaged is one of the file
abbrev pub SalvagedEntriesAreTheFiles : Type 0
SalvagedEntriesAreTheFiles =
    (rule : SalvagedIds) (file : List ℕ) (database : Database (Option (List ℕ))) (entry : Entry (Option (List ℕ))) → header_size ≤ length file → IsSalvaged rule file database → Contains database.entries entry
    → IsKeptFrom file entry
