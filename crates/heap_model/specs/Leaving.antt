-- The state of a region after a call that isn't a step for callers. The store makes its own chunks
-- and databases with these calls.
use Rattle.std.specs.Prelude.{◌≡◌, ℕ, List, length}
use Rattle.heap_model.specs.Chunk.{managers_owner}
use Rattle.heap_model.specs.Slots.{slots_of, tables_of}
use Rattle.heap_model.specs.Heap.{HeapAccepted, directory_of}
use Rattle.heap_model.specs.Meaning.{ChunkMap}
use Rattle.heap_model.specs.Reading.{chunks_of, held}
use Rattle.heap_model.specs.Space.{Still}
use Rattle.heap_model.specs.Placing.{SameFrame}
use Rattle.heap_model.specs.Maps.{changed_at}
use Rattle.heap_model.specs.Database.{Database, spelled, database_in, IsSpelled}
use Rattle.heap_model.specs.Store.{bytes_under, owner_under}

-- The new image is an accepted heap in the same frame, and has this map. A chunk that stays and is
-- still live has not moved.
pub record Leaves (old new : List ℕ) (others : ChunkMap) : Type 0 where
  pub map : (name : ℕ) → held new name ≡ others name
  pub frame : SameFrame old new
  pub still : Still old new

-- The new image is an accepted heap with this directory word. It is as long as the old one and has
-- the same tables, slots and chunks. Each name stands for the same as before.
pub record NamesDirectory (old new : List ℕ) (name : ℕ) : Type 0 where
  pub accepted : HeapAccepted new
  pub len : length new ≡ length old
  pub tables : tables_of new ≡ tables_of old
  pub slots : slots_of new ≡ slots_of old
  pub directory : directory_of new ≡ name
  pub map : (other : ℕ) → held new other ≡ held old other
  pub chunks : chunks_of new ≡ chunks_of old

-- a map with other bytes in a name's chunk
abbrev pub rewritten : ChunkMap → ℕ → List ℕ → ChunkMap
rewritten map name bytes = changed_at map name (λ live. record live { bytes = bytes })

-- the database that the chunk under a slot spells, if it spells one
abbrev pub database_here : List ℕ → ℕ → Database ℕ
database_here image db = database_in (bytes_under image db)

-- In an accepted heap, a chunk of the manager's is under this slot, and it spells a database. The
-- image need not be accepted with its databases: a call may be in progress.
pub record SpellsHere (image : List ℕ) (db : ℕ) : Type 0 where
  pub heap : HeapAccepted image
  pub owner : owner_under image db ≡ managers_owner
  pub spelled : IsSpelled (database_here image db) (bytes_under image db)

-- The chunk under the slot spells this database now. All other chunks are as they were.
abbrev pub Respells : List ℕ → List ℕ → ℕ → Database ℕ → Type 0
Respells old new db database = Leaves old new (rewritten (held old) db (spelled database))
