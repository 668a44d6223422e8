-- The chunk of a database whose bytes change. On the way its bytes may spell no database.
use Rattle.std.specs.Prelude.{◌≡◌, ◌≤◌, ℕ, List, length, take}
use Rattle.heap_model.specs.Chunk.{managers_owner}
use Rattle.heap_model.specs.Bytes.{overwritten}
use Rattle.heap_model.specs.DatabaseFields.{header_size}
use Rattle.heap_model.specs.Database.{Database, IsDatabaseName, header_bytes}
use Rattle.heap_model.specs.Heap.{HeapAccepted}
use Rattle.heap_model.specs.Reading.{held}
use Rattle.heap_model.specs.Store.{bytes_under, owner_under}
use Rattle.heap_model.specs.Leaving.{Leaves, rewritten}

-- in an accepted heap a chunk of the manager's is under this slot, whatever its bytes
pub record IsManagers (image : List ℕ) (db : ℕ) : Type 0 where
  pub heap : HeapAccepted image
  pub owner : owner_under image db ≡ managers_owner

-- The manager's chunk under the slot has these bytes now. All other chunks are as they were.
pub record Rebodies (old new : List ℕ) (db : ℕ) (bytes : List ℕ) : Type 0 where
  pub leaves : Leaves old new (rewritten (held old) db bytes)
  pub managers : IsManagers new db
  pub body : bytes_under new db ≡ bytes

-- the bytes under the slot begin with the header of this database
pub record HasHeaderOf (image : List ℕ) (db : ℕ) (database : Database ℕ) : Type 0 where
  pub name : IsDatabaseName database.header.name
  pub inside : header_size ≤ length (bytes_under image db)
  pub front : take header_size (bytes_under image db) ≡ header_bytes database

-- If the slot's chunk begins with the header of `was`, and `Differs was now` is true, then the
-- header of `now` was written over it. All other bytes, and all other chunks, are as they were.
abbrev pub PutsHeader : List ℕ → List ℕ → ℕ → (Database ℕ → Database ℕ → Type 0) → Type 0
PutsHeader old new db Differs =
    (was now : Database ℕ) → HasHeaderOf old db was → Differs was now
    → Rebodies old new db (overwritten (bytes_under old db) 0 (header_bytes now))
