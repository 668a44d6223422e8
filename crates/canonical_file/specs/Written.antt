-- Files that are written for a file without fault, by the IDs that its records get.
use Rattle.std.specs.Prelude.{◌≡◌, ⊤, ℕ, List}
use Rattle.heap_model.specs.UniqueIds.{seed_in}
use Rattle.heap_model.specs.Database.{header_in, database_in}
use Rattle.heap_model.specs.Store.{unique_ids}
use Rattle.heap_model.specs.Files.{file_of}
use Rattle.pdb_format.specs.ReadFiles.{database_read}
use Rattle.canonical_file.specs.Canonical.{GetsIds}
use Rattle.canonical_file.specs.declared.record_ids.RecordIds.{RecordIds}
use Rattle.canonical_file.specs.declared.record_ids.RecordIds.TheVariants.{Given, Own}

-- the IDs of a file's records in the new file, and its seed
abbrev pub ids_of : List ℕ → RecordIds → List ℕ
ids_of file (Given given) = given.now.ids.items
ids_of file Own = unique_ids (database_in file)

abbrev pub seed_of : List ℕ → RecordIds → ℕ
seed_of file (Given given) = given.now.seed
seed_of file Own = seed_in (header_in file).seed

-- IDs that are given are those of the file's canonical form
abbrev pub CanHaveIds : List ℕ → RecordIds → Type 0
CanHaveIds file (Given given) = GetsIds file given.now
CanHaveIds file Own = ⊤

-- these bytes are the file that is written for the database that is read from a file, with these IDs
abbrev pub IsWrittenBy : List ℕ → RecordIds → List ℕ → Type 0
IsWrittenBy file ids bytes = bytes ≡ file_of (database_read file (ids_of file ids) (seed_of file ids))
