-- Whole new databases: the description of one, the database made from it, and the chunks that the
-- store gets for its data.
use Rattle.std.specs.Prelude.{◌≡◌, ◌≢◌, ◌≤◌, ◌<◌, ◌+◌, ◌++◌, ◌⊎◌, ℕ, Bool, true, false, List, [], ◌∷◌, length, map, drop, replicate, Option, Some, None, IsSome, All}
use Rattle.std.specs.List.{AllZip, filter_map}
use Rattle.heap_model.specs.Chunk.{data_owner, managers_owner}
use Rattle.heap_model.specs.Bytes.{u32_bytes}
use Rattle.heap_model.specs.Slots.{tables_of}
use Rattle.heap_model.specs.Heap.{HeapAccepted, directory_of}
use Rattle.heap_model.specs.Meaning.{ChunkMap}
use Rattle.heap_model.specs.Reading.{held}
use Rattle.heap_model.specs.Space.{Still, free_slots, rooms}
use Rattle.heap_model.specs.Placing.{SameFrame}
use Rattle.heap_model.specs.Lists.{times, Distinct}
use Rattle.heap_model.specs.Database.{DatabaseHeader, Entry, a_record, a_resource, Database, has_resources, is_deleted, IsDatabaseName, entry_offset}
use Rattle.heap_model.specs.UniqueIds.{greatest_id}
use Rattle.heap_model.specs.Rooms.{Part, taken_by, rooms_for, LowersOne, KeepsStretches, Stuck}
use Rattle.heap_model.specs.MemorySteps.{Of, IsLocked}
use Rattle.heap_model.specs.Refusals.{Check, ◌brings◌}
use Rattle.heap_model.specs.Store.{Store, directory_bytes, most_databases, Accepted, store_of}
use Rattle.heap_model.specs.StoreWords.{may_run_out}
use Rattle.heap_model.specs.EntrySteps.{most_entries}
use Rattle.heap_model.specs.DatabaseSteps.{taken}
use Rattle.heap_model.specs.FileSteps.{makings, whole_parts, whole_slots}
use Rattle.heap_model.specs.declared.names.Name.{Name}
use Rattle.heap_model.specs.declared.database.DbInfo.{DbInfo}
use Rattle.heap_model.specs.declared.refusal.Refusal.TheVariants.{TooManyEntries}
use Rattle.mem_manager.specs.Lookup.{IsMovable}
use Rattle.palm_store.specs.Directory.{ListsLast}
use Rattle.palm_store.specs.EntryInfos.{EntryInfo}
use Rattle.palm_store.specs.declared.entries.infos.EntryInfo.TheVariants as infos
use Rattle.palm_store.specs.declared.databases.whole.BlockSizes.{BlockSizes}

-- ---- the description

-- an entry, and the size of its data, if it is to have any
abbrev pub WholeEntry : Type 0
WholeEntry = EntryInfo × Option ℕ

abbrev pub size_of_data : WholeEntry → Option ℕ
size_of_data entry = entry.1

-- the sizes of the data of the database: its info blocks, and then its entries
abbrev pub data_sizes : BlockSizes → List WholeEntry → List (Option ℕ)
data_sizes blocks entries = blocks.app_info ∷ blocks.sort_info ∷ map size_of_data entries

-- An entry can come to a database. It is a record with an ID, and deleted if it has no data, or it
-- is a resource with data, as the database has them.
abbrev pub CanCome : Bool → WholeEntry → Type 0
CanCome resources (infos.Record attributes id, size) = (resources ≡ false) × (0 < id) × (id ≤ greatest_id) × (size ≡ None → is_deleted attributes ≡ true)
CanCome resources (infos.Resource kind id, size) = (resources ≡ true) × IsSome size

-- the ID of an entry, if it is a record
abbrev pub id_asked : WholeEntry → Option ℕ
id_asked (infos.Record attributes id, size) = Some id
id_asked (infos.Resource kind id, size) = None

-- These can be the header and the entries of a database. The name is a database's name. The header
-- gives the number of the entries, at most 65,535, and their kind. No two records have the same ID.
pub record CanBeWhole (info : DbInfo) (entries : List WholeEntry) : Type 0 where
  pub name : IsDatabaseName info.name
  pub entry_count : info.entry_count ≡ length entries
  pub few : length entries ≤ most_entries
  pub each : All (CanCome (has_resources info.attributes)) entries
  pub ids : Distinct (filter_map id_asked entries)

-- ---- the database that comes

-- the fields of the header that describe the database alone
abbrev pub header_asked : DbInfo → DatabaseHeader
header_asked info = record {
  name = info.name;
  attributes = info.attributes;
  version = info.version;
  creation_date = info.creation_date;
  modification_date = info.modification_date;
  backup_date = info.backup_date;
  modification_number = info.modification_number;
  kind = info.kind;
  creator = info.creator;
  seed = info.seed;
}

-- an entry with its data under a name
abbrev pub entry_named : WholeEntry → ℕ → Entry ℕ
entry_named (infos.Record attributes id, size) name = a_record attributes id name
entry_named (infos.Resource kind id, size) name = a_resource kind id name

-- the entries, each with its data under the name at the same index, or under 0 if there are too few
-- names
abbrev pub entries_named : List WholeEntry → List ℕ → List (Entry ℕ)
entries_named [] names = []
entries_named (one ∷ more) [] = entry_named one 0 ∷ entries_named more []
entries_named (one ∷ more) (name ∷ names) = entry_named one name ∷ entries_named more names

abbrev pub first_of : List ℕ → ℕ
first_of [] = 0
first_of (name ∷ names) = name

-- the database with its data under these names: those of the info blocks first, and then those of
-- the entries
abbrev pub whole_database : DbInfo → List WholeEntry → List ℕ → Database ℕ
whole_database info entries names = record {
  header = header_asked info;
  app_info = first_of names;
  sort_info = first_of (drop 1 names);
  entries = entries_named entries (drop 2 names);
}

-- ---- the chunks that come

-- names as numbers
abbrev pub numbers_in : List Name → List ℕ
numbers_in names = map (λ name. name.0) names

-- For a size, the name stood for nothing, and now stands for a chunk of `size` zeros for data,
-- without a lock. For no size, the name is 0.
abbrev pub IsGained : ChunkMap → ChunkMap → Option ℕ → ℕ → Type 0
IsGained old new None name = name ≡ 0
IsGained old new (Some size) name = (0 < name) × (old name ≡ None) × (new name ≡ Some (record { bytes = replicate size 0; lock = 0; owner = data_owner }))

-- A map got a chunk of zeros for each given size, with the owner of data and no lock, each under a
-- name of its own. Every other name stands for the same as before.
pub record GainsZeros (old new : ChunkMap) (sizes : List (Option ℕ)) (names : List ℕ) : Type 0 where
  pub each : AllZip (IsGained old new) sizes names
  pub once : (name : ℕ) → 0 < name → times name names ≤ 1
  pub others : (name : ℕ) → (0 < name → times name names ≡ 0) → new name ≡ old name

-- The store got a database after its others, with the given header and entries. It has a chunk of
-- zeros for each info block and each data, under these names.
pub record GainsWhole (old new : Store) (db : ℕ) (info : DbInfo) (blocks : BlockSizes) (entries : List WholeEntry) (names : List ℕ) : Type 0 where
  pub databases : new.databases ≡ old.databases ++ record { db = db; database = whole_database info entries names } ∷ []
  pub map : GainsZeros old.map new.map (data_sizes blocks entries) names

-- The call has made the database, and may have made the directory for it. The image is accepted, as
-- long as before and with the same tables. No chunk that was locked or fixed has moved.
pub record MakesWhole (old new : List ℕ) (db : ℕ) (info : DbInfo) (blocks : BlockSizes) (entries : List WholeEntry) (names : List ℕ) : Type 0 where
  pub accepted : Accepted new
  pub gains : GainsWhole (store_of old) (store_of new) db info blocks entries names
  pub fresh : held old db ≡ None
  pub len : length new ≡ length old
  pub tables : tables_of new ≡ tables_of old
  pub directory : (directory_of new ≡ directory_of old) ⊎ (directory_of old ≡ 0)
  pub still : Still old new

-- ---- room for it

-- the bytes of the header with all of its entries
abbrev pub whole_size : DbInfo → List WholeEntry → ℕ
whole_size info entries = entry_offset (has_resources info.attributes) (length entries)

-- too few slots are free, or the parts, one after the other, can run out of room
abbrev pub RunsOut : List ℕ → ℕ → List Part → Type 0
RunsOut image slots parts = (free_slots image < slots) ⊎ Stuck (rooms image) parts

-- the checks of the call
abbrev pub checks_of_whole : List ℕ → DbInfo → BlockSizes → List WholeEntry → List Check
checks_of_whole image info blocks entries =
    taken (store_of image) 0 info.name
    ∷ ((most_databases ≤ length (store_of image).databases) brings TooManyEntries)
    ∷ may_run_out image (whole_slots image (data_sizes blocks entries)) (whole_parts image (whole_size info entries) (data_sizes blocks entries))
    ∷ []

-- ---- while the call is in progress

-- each part found room in its turn, and these rooms are left
abbrev pub Spends : List ℕ → List Part → List ℕ → Type 0
Spends left [] rest = rest ≡ left
Spends left (part ∷ parts) rest = (lowered : List ℕ) × LowersOne (rooms_for left part) lowered (taken_by part) × Spends lowered parts rest

-- Chunks for data of these sizes were made, and nothing else has changed. The heap is in the same
-- frame, no chunk that stays has moved, and no chunk has changed its stretch.
pub record MakesAll (old new : List ℕ) (sizes : List (Option ℕ)) (names : List ℕ) : Type 0 where
  pub gains : GainsZeros (held old) (held new) sizes names
  pub frame : SameFrame old new
  pub still : Still old new
  pub spends : Spends (rooms old) (makings sizes) (rooms new)
  pub stretches : KeepsStretches old new
  pub slots : free_slots old ≤ free_slots new + length (makings sizes)

-- The new image is an accepted heap of the same length with the same tables. Its directory lists
-- this slot after those of the old one. It is the same chunk, or is made if there was none. The
-- slot stood for nothing, and now is the name of a chunk of the manager's with these bytes. Chunks
-- for data of these sizes were made, and every other name stands for the same as before. No chunk
-- that stays has moved.
pub record ListsWhole (old new : List ℕ) (slot : ℕ) (bytes : List ℕ) (sizes : List (Option ℕ)) (names : List ℕ) : Type 0 where
  pub accepted : HeapAccepted new
  pub len : length new ≡ length old
  pub tables : tables_of new ≡ tables_of old
  pub still : Still old new
  pub some : 0 < directory_of new
  pub directory : (directory_of new ≡ directory_of old) ⊎ ((directory_of old ≡ 0) × (held old (directory_of new) ≡ None))
  pub last : directory_bytes new ≡ directory_bytes old ++ u32_bytes slot
  pub fresh : held old slot ≡ None
  pub apart : slot ≢ directory_of new
  pub chunk : held new slot ≡ Some (record { bytes = bytes; lock = 0; owner = managers_owner })
  pub each : AllZip (IsGained (held old) (held new)) sizes names
  pub once : (name : ℕ) → 0 < name → times name names ≤ 1
  pub others : (name : ℕ) → name ≢ slot → name ≢ directory_of new → (0 < name → times name names ≡ 0) → held new name ≡ held old name

-- Chunks for data of these sizes were made, and then the slot was listed.
pub record MakesAndLists (old new : List ℕ) (slot : ℕ) (sizes : List (Option ℕ)) (names : List ℕ) : Type 0 where
  pub mid : List ℕ
  pub makes : MakesAll old mid sizes names
  pub lists : ListsLast mid new slot

-- Each of these names that isn't 0 has a movable chunk of its own: the name occurs once, and the
-- chunk is neither locked nor the directory.
pub record AreOwnChunks (image : List ℕ) (names : List ℕ) : Type 0 where
  pub movable : (name : ℕ) → 0 < name → 0 < times name names → IsMovable image name
  pub unlocked : (name : ℕ) → 0 < name → 0 < times name names → Of (held image name) IsLocked → ⊥
  pub once : (name : ℕ) → 0 < name → times name names ≤ 1
  pub no_directory : (name : ℕ) → 0 < name → 0 < times name names → name ≢ directory_of image
