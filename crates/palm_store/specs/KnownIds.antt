-- IDs that are known to be free, and the image that they are free in.
use Rattle.std.specs.Prelude.{◌≡◌, ℕ, List}
use Rattle.std.specs.List.{filter_map}
use Rattle.heap_model.specs.Lists.{times}
use Rattle.heap_model.specs.Database.{Entry}
use Rattle.heap_model.specs.Store.{Store, unique_id, Accepted, store_of}
use Rattle.heap_model.specs.EntrySteps.{entries_in, HasId}
use Rattle.heap_model.specs.declared.names.Db.{Db}
use Rattle.fresh_ids.specs.FreeIds.{IsInRange, AreFree}
use Rattle.palm_store.specs.declared.entries.known.KnownIds.{KnownIds}

-- the unique IDs of the records of a database
abbrev pub ids_in : Store → Db → List ℕ
ids_in store db = filter_map unique_id (entries_in store db)

-- no record of the database has one of the IDs
abbrev pub StandFree : Store → KnownIds → Type 0
StandFree store known = AreFree (ids_in store known.db) known.ids

-- no record of the database has one of the IDs, and this entry, which comes to a database, doesn't
-- either
abbrev pub StandFreeBeside : Store → Entry ℕ → KnownIds → Type 0
StandFreeBeside store entry known = (id : ℕ) → IsInRange known.ids id → (times id (ids_in store known.db) ≡ 0) × (HasId id entry → ⊥)

-- after a change, an entry has none of the IDs that it didn't have before
abbrev pub GetsNone : KnownIds → (Entry ℕ → Entry ℕ) → Type 0
GetsNone known change = (id : ℕ) → IsInRange known.ids id → (entry : Entry ℕ) → HasId id (change entry) → HasId id entry

-- the image is accepted, and the IDs that are known to be free are free
pub record IsStore (image : List ℕ) (known : KnownIds) : Type 0 where
  pub accepted : Accepted image
  pub free : StandFree (store_of image) known
