-- The changes that a call makes to an image with databases: which of the manager's chunks are as
-- they were, and which names have chunks for data.
use Rattle.std.specs.Prelude.{◌≡◌, ◌≢◌, ◌<◌, ◌+◌, ◌%◌, ◌++◌, ◌↔◌, ℕ, List, Option, Some, None, [], ◌∷◌, length, slice_index_or, slice_set, All}
use Rattle.std.specs.List.{remove}
use Rattle.heap_model.specs.Chunk.{managers_owner, data_owner}
use Rattle.heap_model.specs.Heap.{HeapAccepted, directory_of}
use Rattle.heap_model.specs.Meaning.{LiveChunk, ChunkMap}
use Rattle.heap_model.specs.Reading.{held}
use Rattle.heap_model.specs.Maps.{updated}
use Rattle.heap_model.specs.Lists.{same, times, Distinct}
use Rattle.heap_model.specs.Database.{Database, data_in, spelled}
use Rattle.heap_model.specs.Store.{StoredDatabase, Store, owner_of, owner_under, directory_bytes, listed, most_databases, names_of, Accepted, store_of, listed_size}
use Rattle.heap_model.specs.StoreWords.{SameStore, all_gone}
use Rattle.heap_model.specs.Counts.{IsWhole, IsSound}
use Rattle.heap_model.specs.Leaving.{Leaves, rewritten, database_here}

-- The new image is an accepted heap with the same directory, and the manager's chunks are as they
-- were. The same names have chunks of the manager's, and the same names have chunks for data. The
-- contents of chunks for data may differ.
pub record KeepsManagers (old new : List ℕ) : Type 0 where
  pub heap : HeapAccepted new
  pub directory : directory_of new ≡ directory_of old
  pub managers : (name : ℕ) → owner_under old name ≡ managers_owner → held new name ≡ held old name
  pub owners : (name : ℕ) → ((owner_under new name ≡ managers_owner) ↔ (owner_under old name ≡ managers_owner))
  pub «data» : (name : ℕ) → ((owner_under new name ≡ data_owner) ↔ (owner_under old name ≡ data_owner))

-- One database became another of the same number. The new image is an accepted heap with the same
-- directory. The manager's other chunks are as they were, and the same names have chunks of the
-- manager's. A name gains a chunk for data exactly if the new database names it once more than the
-- old one, and loses it exactly if once less.
pub record Rewrites (old new : List ℕ) (stored : List StoredDatabase) (index : ℕ) (one : StoredDatabase) : Type 0 where
  pub heap : HeapAccepted new
  pub directory : directory_of new ≡ directory_of old
  pub inside : index < length stored
  pub number : one.db ≡ (slice_index_or stored index one).db
  pub whole : IsWhole new one
  pub own_names : Distinct (names_of (slice_set stored index one))
  pub managers : (name : ℕ) → name ≢ one.db → owner_under old name ≡ managers_owner → held new name ≡ held old name
  pub owners : (name : ℕ) → ((owner_under new name ≡ managers_owner) ↔ (owner_under old name ≡ managers_owner))
  pub balance : (name : ℕ) → 0 < name
      → times name (data_in one.database) + same (owner_under old name) data_owner ≡ times name (data_in (slice_index_or stored index one).database) + same (owner_under new name) data_owner

-- A database was added after the others, and the directory lists it last. The new image is an
-- accepted heap. Its directory may be under another name, and the manager's other chunks are as
-- they were. The names new to the manager are the database's number and that of a new directory.
-- The names new to data are those that the database names.
pub record Appends (old new : List ℕ) (stored : List StoredDatabase) (one : StoredDatabase) : Type 0 where
  pub heap : HeapAccepted new
  pub whole : length (directory_bytes new) % listed_size ≡ 0
  pub listed_are : listed new ≡ listed old ++ one.db ∷ []
  pub some : 0 < one.db
  pub few : length stored < most_databases
  pub database : IsWhole new one
  pub own_names : Distinct (names_of (stored ++ one ∷ []))
  pub managers : (name : ℕ) → name ≢ directory_of old → owner_under old name ≡ managers_owner → held new name ≡ held old name
  pub owners : (name : ℕ) → 0 < name
      → same name one.db + same name (directory_of new) + same (owner_under old name) managers_owner ≡ same name (directory_of old) + same (owner_under new name) managers_owner
  pub balance : (name : ℕ) → 0 < name → times name (data_in one.database) + same (owner_under old name) data_owner ≡ same (owner_under new name) data_owner

-- One database was removed, and the directory lists the others. The new image is an accepted heap
-- with the directory in the same slot, and the manager's other chunks are as they were. The
-- database's number has no chunk of the manager's any more, and the names in the database have no
-- chunks for data.
pub record Drops (old new : List ℕ) (stored : List StoredDatabase) (index : ℕ) (one : StoredDatabase) : Type 0 where
  pub heap : HeapAccepted new
  pub directory : directory_of new ≡ directory_of old
  pub whole : length (directory_bytes new) % listed_size ≡ 0
  pub listed_are : listed new ≡ remove (listed old) index
  pub inside : index < length stored
  pub is : one ≡ slice_index_or stored index one
  pub managers : (name : ℕ) → name ≢ directory_of old → name ≢ one.db → owner_under old name ≡ managers_owner → held new name ≡ held old name
  pub owners : (name : ℕ) → 0 < name → same name one.db + same (owner_under new name) managers_owner ≡ same (owner_under old name) managers_owner
  pub balance : (name : ℕ) → 0 < name → times name (data_in one.database) + same (owner_under new name) data_owner ≡ same (owner_under old name) data_owner

-- The header of a removed database is gone, and so are the chunks that it named. All other chunks
-- are as they were, except the manager's.
pub record Clears (old new : List ℕ) (one : StoredDatabase) : Type 0 where
  pub header : held new one.db ≡ None
  pub others : (name : ℕ) → owner_under old name ≢ managers_owner → held new name ≡ all_gone (held old) (data_in one.database) name

-- the image is accepted, and means the store
pub record HasStore (image : List ℕ) (store : Store) : Type 0 where
  pub accepted : Accepted image
  pub same : SameStore (store_of image) store

-- a name, and what it stands for now
pub record Change : Type 0 where
  pub name : ℕ
  pub now : Option LiveChunk

-- a map in which some names stand for something else
abbrev pub all_updated : ChunkMap → List Change → ChunkMap
all_updated map [] = map
all_updated map (one ∷ more) = updated (all_updated map more) one.name one.now

-- a chunk that callers may name is made, changed or freed, and keeps its locks
pub record IsCallersChange (image : List ℕ) (one : Change) : Type 0 where
  pub callers : owner_under image one.name ≢ managers_owner
  pub callers_now : owner_of one.now ≢ managers_owner
  pub locks : (before after : LiveChunk) → held image one.name ≡ Some before → one.now ≡ Some after → after.lock ≡ before.lock

-- One database became another of the same name, and some chunks that callers may name were made,
-- changed or freed. All other chunks are as they were. A name gains a chunk for data exactly if the
-- new database names it once more than the old one, and loses it exactly if once less.
pub record Edits (old new : List ℕ) (db : ℕ) (database : Database ℕ) (changes : List Change) : Type 0 where
  pub leaves : Leaves old new (all_updated (rewritten (held old) db (spelled database)) changes)
  pub sound : IsSound database
  pub same_name : database.header.name ≡ (database_here old db).header.name
  pub each : All (IsCallersChange old) changes
  pub balance : (other : ℕ) → 0 < other
      → times other (data_in database) + same (owner_under old other) data_owner ≡ times other (data_in (database_here old db)) + same (owner_under new other) data_owner
