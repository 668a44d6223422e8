-- Stores: what an image contains besides its chunks. The directory lists the headers of databases.
-- Each header names the chunks of its info blocks and of its entries' data.
use Rattle.std.specs.Prelude.{◌≡◌, ◌≢◌, ◌≤◌, ◌%◌, ◌⊎◌, ℕ, zero, suc, true, List, [], length, map, Option, Some, None, All}
use Rattle.std.specs.List.{AllZip, Contains, filter_map, flat_map}
use Rattle.heap_model.specs.Chunk.{managers_owner, data_owner}
use Rattle.heap_model.specs.Heap.{HeapAccepted, directory_of}
use Rattle.heap_model.specs.Meaning.{LiveChunk, ChunkMap, Holds}
use Rattle.heap_model.specs.Reading.{held}
use Rattle.heap_model.specs.Maps.{without_owner, callers_map}
use Rattle.heap_model.specs.Lists.{times, u32s_in, Distinct}
use Rattle.heap_model.specs.Database.{Database, Entry, a_record, a_resource, with_data, data_in, is_deleted, database_in, IsSpelled}

-- ---- stores

-- A database of a store, with its number: the slot of its header. Its data is given by names: a
-- name stands for a chunk of the store's map, and 0 for no chunk.
pub record StoredDatabase : Type 0 where
  pub db : ℕ
  pub database : Database ℕ

-- The meaning of an image for callers: the chunks that they may name, whose owners are 1 to 15, and
-- the databases in the order of the directory.
pub record Store : Type 0 where
  pub map : ChunkMap
  pub databases : List StoredDatabase

-- ---- what a name stands for in an image

-- the bytes of a chunk, if there is one
abbrev pub bytes_of : Option LiveChunk → List ℕ
bytes_of None = []
bytes_of (Some live) = live.bytes

-- the bytes under a name; none if the name is 0
abbrev pub bytes_named : ChunkMap → ℕ → Option (List ℕ)
bytes_named map zero = None
bytes_named map (suc name) = Some (bytes_of (map (suc name)))

-- the content of a database: the bytes instead of the names
abbrev pub content : ChunkMap → Database ℕ → Database (Option (List ℕ))
content map database = with_data (bytes_named map) database

-- the owner of a chunk; if there is no chunk, 16, which is no chunk's owner
abbrev pub owner_of : Option LiveChunk → ℕ
owner_of None = 16
owner_of (Some live) = live.owner

unfoldable pub bytes_under : List ℕ → ℕ → List ℕ
bytes_under image name = bytes_of (held image name)

unfoldable pub owner_under : List ℕ → ℕ → ℕ
owner_under image name = owner_of (held image name)

-- ---- the databases of an image

-- the size of a database's entry in the directory: four bytes, the slot of its header
abbrev pub listed_size : ℕ
listed_size = 4

-- the bytes of the directory; there are none if the directory word is 0
unfoldable pub directory_bytes : List ℕ → List ℕ
directory_bytes image = bytes_under image (directory_of image)

-- the slots of the headers, in the order of the databases
unfoldable pub listed : List ℕ → List ℕ
listed image = u32s_in (directory_bytes image)

-- the database whose header is under a slot
abbrev pub database_under : List ℕ → ℕ → StoredDatabase
database_under image slot = record { db = slot; database = database_in (bytes_under image slot) }

-- the databases, in the order of the directory
unfoldable pub databases : List ℕ → List StoredDatabase
databases image = map (database_under image) (listed image)

-- the names in some databases, in their order; 0 if an info block or an entry has no data
abbrev pub named_by : List StoredDatabase → List ℕ
named_by stored = flat_map (λ one. data_in one.database) stored

-- the names in the databases of an image
unfoldable pub named : List ℕ → List ℕ
named image = named_by (databases image)

-- ---- the accepted image

-- the most databases that a store may have: this project's own limit
abbrev pub most_databases : ℕ
most_databases = 1024

-- a chunk with the manager's owner is under this slot, and it is not the directory
pub record IsHeaderSlot (image : List ℕ) (slot : ℕ) : Type 0 where
  pub owner : owner_under image slot ≡ managers_owner
  pub other : slot ≢ directory_of image

-- an info block is absent, or its chunk is one for data
abbrev pub IsInfoBlock : List ℕ → ℕ → Type 0
IsInfoBlock image slot = (slot ≡ 0) ⊎ (owner_under image slot ≡ data_owner)

-- an entry's data is in a chunk for data; only a deleted record may have none
abbrev pub HasData : List ℕ → Entry ℕ → Type 0
HasData image (a_record attributes id slot) = ((slot ≡ 0) × (is_deleted attributes ≡ true)) ⊎ (owner_under image slot ≡ data_owner)
HasData image (a_resource kind id slot) = owner_under image slot ≡ data_owner

-- the unique ID of an entry; only a record has one
abbrev pub unique_id : {Data : Type 0} → Entry Data → Option ℕ
unique_id (a_record attributes id «data») = Some id
unique_id (a_resource kind id «data») = None

-- the unique IDs of a database's records, in their order
abbrev pub unique_ids : {Data : Type 0} → Database Data → List ℕ
unique_ids database = filter_map unique_id database.entries

-- the records have unique IDs: none is 0, and no two are the same
pub record HasUniqueIds (database : Database ℕ) : Type 0 where
  pub none_zero : All (λ id. id ≢ 0) (unique_ids database)
  pub distinct : Distinct (unique_ids database)

-- the header's chunk spells the database, the chunks that it names exist, and its records have
-- unique IDs
pub record IsDatabase (image : List ℕ) (stored : StoredDatabase) : Type 0 where
  pub spelled : IsSpelled stored.database (bytes_under image stored.db)
  pub app_info : IsInfoBlock image stored.database.app_info
  pub sort_info : IsInfoBlock image stored.database.sort_info
  pub entries : All (HasData image) stored.database.entries
  pub ids : HasUniqueIds stored.database

-- the numbers of some databases, and their names
abbrev pub numbers_of : List StoredDatabase → List ℕ
numbers_of stored = map (λ one. one.db) stored

abbrev pub names_of : List StoredDatabase → List (List ℕ)
names_of stored = map (λ one. one.database.header.name) stored

-- The image is an accepted heap. Its directory lists slots, each once, and under each slot a
-- database with a name of its own. If the directory word is 0, it lists none. Each chunk for data
-- is named by exactly one entry or info block. Each movable chunk of the manager's is the directory
-- or listed in it.
pub record Accepted (image : List ℕ) : Type 0 where
  pub heap : HeapAccepted image
  pub whole : length (directory_bytes image) % listed_size ≡ 0
  pub few : length (listed image) ≤ most_databases
  pub distinct : Distinct (listed image)
  pub headers : All (IsHeaderSlot image) (listed image)
  pub each : All (IsDatabase image) (databases image)
  pub own_names : Distinct (names_of (databases image))
  pub data_once : (slot : ℕ) → owner_under image slot ≡ data_owner → times slot (named image) ≡ 1
  pub all_listed : (slot : ℕ) → owner_under image slot ≡ managers_owner → (slot ≡ directory_of image) ⊎ Contains (listed image) slot

-- ---- what it means

-- the header's chunk is under this slot, and spells the database
pub record SpelledUnder (map : ChunkMap) (slot : ℕ) (stored : StoredDatabase) : Type 0 where
  pub number : stored.db ≡ slot
  pub spelled : IsSpelled stored.database (bytes_of (map slot))

-- The image means this store: the store's map is the image's map without the manager's own chunks.
-- The store's databases are those that the headers in the directory spell, in their order.
pub record Means (image : List ℕ) (store : Store) : Type 0 where
  pub all : ChunkMap
  pub holds : Holds image all
  pub map_is : store.map ≡ without_owner all managers_owner
  pub spelled : AllZip (SpelledUnder all) (listed image) store.databases

-- the store that an image means, as a function
unfoldable pub store_of : List ℕ → Store
store_of image = record { map = callers_map image; databases = databases image }
