-- The preconditions and postconditions of the calls on entries, on the store that an image means.
use Rattle.std.specs.Prelude.{◌≡◌, ◌≢◌, ◌<◌, ℕ, Bool, true, false, List, []}
use Rattle.heap_model.specs.Memory.{Memory}
use Rattle.heap_model.specs.Chunk.{fixed_lock, data_owner}
use Rattle.heap_model.specs.Database.{Entry}
use Rattle.heap_model.specs.Lists.{moved}
use Rattle.heap_model.specs.Maps.{sized}
use Rattle.heap_model.specs.Refusals.{Check}
use Rattle.heap_model.specs.MemorySteps.{Of, IsLocked, growth_checks}
use Rattle.heap_model.specs.Store.{Store, store_of}
use Rattle.heap_model.specs.EntrySteps.{entries_in, data_under, resources_under, with_entries, with_chunks, entry_made, entry_attached, entry_changed, entry_swapped, raised, making_checks, attaching_checks, giving_checks, LeavesStore}
use Rattle.heap_model.specs.declared.names.Db.{Db}
use Rattle.palm_store.specs.Databases.{HasNumber}
pub use Rattle.database_edits.specs.Kept.{OnlyWrites, OnlySlides}
use Rattle.palm_store.specs.EntryInfos.{EntryInfo, NewEntry, with_info, IsMadeOf, CanHave}

-- ---- a database of the image

abbrev pub entries_of_image : List ℕ → Db → List (Entry ℕ)
entries_of_image image db = entries_in (store_of image) db

abbrev pub resources_of_image : List ℕ → Db → Bool
resources_of_image image db = resources_under (store_of image) db

abbrev pub data_of_image : List ℕ → Db → ℕ → ℕ
data_of_image image db index = data_under (store_of image) db index

-- the data of an entry is locked
abbrev pub HasLockedData : List ℕ → Db → ℕ → Type 0
HasLockedData image db index = Of ((store_of image).map (data_of_image image db index)) IsLocked

-- this is the name of some entry's data
pub record IsEntryData (image : List ℕ) (name : ℕ) : Type 0 where
  pub db : Db
  pub index : ℕ
  pub number : HasNumber image db.0
  pub is : data_of_image image db index ≡ name
  pub some : 0 < name

-- A caller's chunk that a database can take: it is not one for data, and it is movable.
abbrev pub MayBeGiven : List ℕ → ℕ → Type 0
MayBeGiven image name = Of ((store_of image).map name) (λ live. (live.owner ≢ data_owner) × (live.lock ≢ fixed_lock))

abbrev pub MayHave : List ℕ → Db → ℕ → EntryInfo → Type 0
MayHave image db index info = CanHave (store_of image) db (resources_of_image image db) index info

-- ---- the checks of a call

abbrev pub checks_of_making : List ℕ → Db → ℕ → List Check
checks_of_making image db size = making_checks image (store_of image) db size

abbrev pub checks_of_attaching : List ℕ → Db → List Check
checks_of_attaching image db = attaching_checks image (store_of image) db

-- the checks of a name's chunk that a database takes
abbrev pub checks_of_giving : List ℕ → ℕ → List Check
checks_of_giving image name = giving_checks (store_of image).map name []

abbrev pub checks_of_data_growth : Memory → ℕ → ℕ → List Check
checks_of_data_growth memory name size = growth_checks memory (store_of memory.bytes).map name size

-- ---- the effect of a call

-- the new image means the changed store of the old one
abbrev pub LeavesChanged : Memory → Memory → (Store → Store) → Type 0
LeavesChanged old new change = LeavesStore old.bytes new.bytes (change (store_of old.bytes))

-- a store in which a database counts one call more, if that is asked
abbrev pub raised_if : Bool → Store → Db → Store
raised_if true store db = raised store db
raised_if false store db = store

-- The entry that was made from the caller's information is there, with its data under a slot. The
-- database counts the call.
abbrev pub LeavesMade : Memory → Memory → Db → ℕ → NewEntry → ℕ → ℕ → Type 0
LeavesMade old new db at entry slot size =
    (made : Entry ℕ) × IsMadeOf (store_of old.bytes) db entry slot made × LeavesChanged old new (λ store. raised (entry_made store db at made size) db)

-- the same, if its data is a chunk that was a caller's
abbrev pub LeavesAttached : Memory → Memory → Db → ℕ → NewEntry → ℕ → Type 0
LeavesAttached old new db at entry slot =
    (made : Entry ℕ) × IsMadeOf (store_of old.bytes) db entry slot made × LeavesChanged old new (λ store. raised (entry_attached store db at made) db)

abbrev pub entry_informed : Store → Db → ℕ → EntryInfo → Store
entry_informed store db index info = entry_changed store db index (with_info info)

-- A store in which an entry gets information and a caller's chunk for its data. The chunk of its
-- old data gets an owner.
abbrev pub entry_given : Store → Db → ℕ → EntryInfo → ℕ → ℕ → Store
entry_given store db index info name owner = entry_swapped store db index (with_info info) name owner

abbrev pub entry_moved_in : Store → Db → ℕ → ℕ → Store
entry_moved_in store db from to = with_entries store db (λ entries. moved entries from to)

abbrev pub data_sized : Store → ℕ → ℕ → Store
data_sized store name size = with_chunks store (sized store.map name size)
