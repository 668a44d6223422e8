-- An image and its databases, by counts: how often each name is the number of a database, and how
-- often databases name it. The proofs show that calls that change databases keep this relation.
use Rattle.std.specs.Prelude.{◌≡◌, ◌≤◌, ◌<◌, ◌+◌, ◌%◌, ℕ, true, List, length, All}
use Rattle.heap_model.specs.Chunk.{managers_owner, data_owner}
use Rattle.heap_model.specs.Heap.{HeapAccepted, directory_of}
use Rattle.heap_model.specs.Lists.{same, times, Distinct}
use Rattle.heap_model.specs.Database.{Database, Entry, a_record, a_resource, is_deleted, DatabaseFits, IsSpelled}
use Rattle.heap_model.specs.Store.{StoredDatabase, bytes_under, owner_under, directory_bytes, listed, named_by, most_databases, HasUniqueIds, numbers_of, names_of, listed_size}

-- an entry names data, if it isn't that of a deleted record
abbrev pub NamesData : Entry ℕ → Type 0
NamesData (a_record attributes id slot) = slot ≡ 0 → is_deleted attributes ≡ true
NamesData (a_resource kind id slot) = 0 < slot

-- a database of an image is right by itself, whatever chunks its names stand for
pub record IsWhole (image : List ℕ) (stored : StoredDatabase) : Type 0 where
  pub spelled : IsSpelled stored.database (bytes_under image stored.db)
  pub entries : All NamesData stored.database.entries
  pub ids : HasUniqueIds stored.database

-- The image has these databases, in this order, and is accepted with them. A name that isn't 0 is
-- named once if its chunk is one for data, and otherwise never. It is the number of one database or
-- the directory if its chunk is one of the manager's, and otherwise neither.
pub record HasDatabases (image : List ℕ) (stored : List StoredDatabase) : Type 0 where
  pub heap : HeapAccepted image
  pub whole : length (directory_bytes image) % listed_size ≡ 0
  pub listed_are : listed image ≡ numbers_of stored
  pub few : length stored ≤ most_databases
  pub each : All (IsWhole image) stored
  pub own_names : Distinct (names_of stored)
  pub named_once : (name : ℕ) → 0 < name → times name (named_by stored) ≡ same (owner_under image name) data_owner
  pub listed_once : (name : ℕ) → 0 < name → times name (numbers_of stored) + same name (directory_of image) ≡ same (owner_under image name) managers_owner
  pub none_listed : times 0 (numbers_of stored) ≡ 0

-- A database is right by itself, whatever spells it. It can be spelled, its entries name data
-- unless they are deleted records, and its records have unique IDs.
pub record IsSound (database : Database ℕ) : Type 0 where
  pub fits : DatabaseFits database
  pub entries : All NamesData database.entries
  pub ids : HasUniqueIds database
