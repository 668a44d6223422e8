-- Databases: their values, the bytes that spell them, and the value that is read from bytes.
--
-- The header and the entries are those of a PDB or PRC file (File Format Specification). A heap has
-- the slot of a chunk wherever a file has an offset, which is this project's own. So one spelling
-- serves both: a database here has numbers for its data. Each use of it says what these numbers
-- mean.
use Rattle.std.specs.Prelude.{◌≡◌, ◌≤◌, ◌<◌, ◌+◌, ◌-◌, ◌*◌, ◌/◌, ◌%◌, ◌^◌, ◌==◌, ◌++◌, not, ℕ, Bool, true, false, List, [], ◌∷◌, length, take, replicate, slice_index, map, All}
use Rattle.std.specs.Int.{bit_at}
use Rattle.std.specs.List.{concat, flat_map, take_while}
use Rattle.heap_model.specs.Bytes.{u16_at, u24_at, u32_at, u16_bytes, u24_bytes, u32_bytes}
use Rattle.heap_model.specs.Lists.{numbered}
use Rattle.heap_model.specs.DatabaseFields.{name_size, attributes_at, version_at, creation_date_at, modification_date_at, backup_date_at, modification_number_at, app_info_at, sort_info_at, kind_at, creator_at, seed_at, next_list_at, entry_count_at, header_size, record_attributes_at, record_id_at, resource_id_at, resource_data_at, entry_size}

-- ---- values

-- The fields of a header that describe the database alone:
-- - its name, without the zeros after it
-- - its attributes and version
-- - when it was made, modified and backed up last
-- - its modification number
-- - its type and creator
-- - the seed of its records' IDs
pub record DatabaseHeader : Type 0 where
  pub name : List ℕ
  pub attributes : ℕ
  pub version : ℕ
  pub creation_date : ℕ
  pub modification_date : ℕ
  pub backup_date : ℕ
  pub modification_number : ℕ
  pub kind : ℕ
  pub creator : ℕ
  pub seed : ℕ

-- An entry. Of a record: its attributes, its unique ID, and its data. Of a resource: its type, its
-- id, and its data.
pub data Entry (Data : Type 0) : Type 0 where
  a_record : ℕ → ℕ → Data → Entry Data
  a_resource : ℕ → ℕ → Data → Entry Data

-- A database: its header, its AppInfo and SortInfo blocks, and its entries in their order.
pub record Database (Data : Type 0) : Type 0 where
  pub header : DatabaseHeader
  pub app_info : Data
  pub sort_info : Data
  pub entries : List (Entry Data)

-- the data of an entry
abbrev pub entry_data : {Data : Type 0} → Entry Data → Data
entry_data (a_record attributes id «data») = «data»
entry_data (a_resource kind id «data») = «data»

-- the data of a database: its AppInfo and SortInfo blocks, and then the data of its entries
abbrev pub data_in : {Data : Type 0} → Database Data → List Data
data_in database = database.app_info ∷ database.sort_info ∷ map entry_data database.entries

-- an entry with its data changed, and a database with all its data changed
abbrev pub entry_with : {Data Other : Type 0} → (Data → Other) → Entry Data → Entry Other
entry_with change (a_record attributes id «data») = a_record attributes id (change «data»)
entry_with change (a_resource kind id «data») = a_resource kind id (change «data»)

abbrev pub with_data : {Data Other : Type 0} → (Data → Other) → Database Data → Database Other
with_data change database = record {
  header = database.header;
  app_info = change database.app_info;
  sort_info = change database.sort_info;
  entries = map (entry_with change) database.entries;
}

-- A database with these attributes has resources: 0x0001 is set. Otherwise it has records.
abbrev pub has_resources : ℕ → Bool
has_resources attributes = bit_at attributes 0 == 1

-- the attributes `given`, with the lowest bit of `others`, which says whether there are resources
abbrev pub with_resources_of : ℕ → ℕ → ℕ
with_resources_of others given = 2 * (given / 2) + others % 2

-- a database with these attributes is read-only: 0x0002 is set
abbrev pub is_read_only : ℕ → Bool
is_read_only attributes = bit_at attributes 1 == 1

-- a record with these attributes is deleted: 0x80 is set
abbrev pub is_deleted : ℕ → Bool
is_deleted attributes = bit_at attributes 7 == 1

-- ---- how it is spelled

-- the field of a name: its bytes, and zeros after them
unfoldable pub name_field : List ℕ → List ℕ
name_field name = name ++ replicate (name_size - length name) 0

-- the fields after the name, in their order
abbrev pub fields_behind_name : Database ℕ → List (List ℕ)
fields_behind_name database =
    u16_bytes database.header.attributes
    ∷ u16_bytes database.header.version
    ∷ u32_bytes database.header.creation_date
    ∷ u32_bytes database.header.modification_date
    ∷ u32_bytes database.header.backup_date
    ∷ u32_bytes database.header.modification_number
    ∷ u32_bytes database.app_info
    ∷ u32_bytes database.sort_info
    ∷ u32_bytes database.header.kind
    ∷ u32_bytes database.header.creator
    ∷ u32_bytes database.header.seed
    ∷ u32_bytes 0
    ∷ u16_bytes (length database.entries)
    ∷ []

-- the bytes of the header
unfoldable pub header_bytes : Database ℕ → List ℕ
header_bytes database = name_field database.header.name ++ concat (fields_behind_name database)

-- the bytes of an entry
unfoldable pub entry_bytes : Entry ℕ → List ℕ
entry_bytes (a_record attributes id «data») = u32_bytes «data» ++ (attributes ∷ u24_bytes id)
entry_bytes (a_resource kind id «data») = u32_bytes kind ++ (u16_bytes id ++ u32_bytes «data»)

-- the bytes of a database: its header and its entries
unfoldable pub spelled : Database ℕ → List ℕ
spelled database = header_bytes database ++ flat_map entry_bytes database.entries

-- ---- which databases can be spelled

-- a name of 1 to 31 bytes, none of them zero
pub record IsDatabaseName (name : List ℕ) : Type 0 where
  pub some : 0 < length name
  pub room : length name < name_size
  pub none_zero : All (λ byte. 0 < byte) name

-- the numbers of a header fit in their fields
pub record HeaderFits (header : DatabaseHeader) : Type 0 where
  pub attributes : header.attributes < 2 ^ 16
  pub version : header.version < 2 ^ 16
  pub creation_date : header.creation_date < 2 ^ 32
  pub modification_date : header.modification_date < 2 ^ 32
  pub backup_date : header.backup_date < 2 ^ 32
  pub modification_number : header.modification_number < 2 ^ 32
  pub kind : header.kind < 2 ^ 32
  pub creator : header.creator < 2 ^ 32
  pub seed : header.seed < 2 ^ 32

-- the entry is a resource for `true` and a record for `false`, and its numbers fit in their fields
abbrev pub EntryFits : Bool → Entry ℕ → Type 0
EntryFits false (a_record attributes id «data») = (attributes < 2 ^ 8) × (id < 2 ^ 24) × («data» < 2 ^ 32)
EntryFits false (a_resource kind id «data») = ⊥
EntryFits true (a_record attributes id «data») = ⊥
EntryFits true (a_resource kind id «data») = (kind < 2 ^ 32) × (id < 2 ^ 16) × («data» < 2 ^ 32)

-- The name is a database's name, all numbers fit in their fields, and the entries are of the kind
-- that the attributes give.
pub record DatabaseFits (database : Database ℕ) : Type 0 where
  pub name : IsDatabaseName database.header.name
  pub header : HeaderFits database.header
  pub app_info : database.app_info < 2 ^ 32
  pub sort_info : database.sort_info < 2 ^ 32
  pub entries : All (EntryFits (has_resources database.header.attributes)) database.entries
  pub entry_count : length database.entries < 2 ^ 16

-- these bytes spell this database
pub record IsSpelled (database : Database ℕ) (bytes : List ℕ) : Type 0 where
  pub fits : DatabaseFits database
  pub bytes_are : bytes ≡ spelled database

-- ---- how it is read

-- the name in a header: the bytes before the first zero, at most 31
unfoldable pub name_in : List ℕ → List ℕ
name_in bytes = take_while (λ byte. not (byte == 0)) (take (name_size - 1) bytes)

unfoldable pub header_in : List ℕ → DatabaseHeader
header_in bytes = record {
  name = name_in bytes;
  attributes = u16_at bytes attributes_at;
  version = u16_at bytes version_at;
  creation_date = u32_at bytes creation_date_at;
  modification_date = u32_at bytes modification_date_at;
  backup_date = u32_at bytes backup_date_at;
  modification_number = u32_at bytes modification_number_at;
  kind = u32_at bytes kind_at;
  creator = u32_at bytes creator_at;
  seed = u32_at bytes seed_at;
}

-- the attributes say that the entries are resources
abbrev pub resources_in : List ℕ → Bool
resources_in bytes = has_resources (u16_at bytes attributes_at)

-- the number of entries that the header gives
abbrev pub entry_count_in : List ℕ → ℕ
entry_count_in bytes = u16_at bytes entry_count_at

-- The offset of the entry at an index, among resources or among records. If the index is the number
-- of entries, it is the offset where the entries end.
abbrev pub entry_offset : Bool → ℕ → ℕ
entry_offset resources index = header_size + entry_size resources * index

-- the entry at an offset
abbrev pub entry_at : Bool → List ℕ → ℕ → Entry ℕ
entry_at false bytes at = a_record (slice_index bytes (at + record_attributes_at)) (u24_at bytes (at + record_id_at)) (u32_at bytes at)
entry_at true bytes at = a_resource (u32_at bytes at) (u16_at bytes (at + resource_id_at)) (u32_at bytes (at + resource_data_at))

-- the entry at an index
abbrev pub entry_in : List ℕ → ℕ → Entry ℕ
entry_in bytes index = entry_at (resources_in bytes) bytes (entry_offset (resources_in bytes) index)

-- the database that is read from bytes
unfoldable pub database_in : List ℕ → Database ℕ
database_in bytes = record {
  header = header_in bytes;
  app_info = u32_at bytes app_info_at;
  sort_info = u32_at bytes sort_info_at;
  entries = numbered (entry_in bytes) (entry_count_in bytes);
}

-- ---- which bytes spell a database

-- the name field contains a database's name, and zeros up to the end of the field
pub record HasName (bytes : List ℕ) : Type 0 where
  pub name : IsDatabaseName (name_in bytes)
  pub field : take name_size bytes ≡ name_field (name_in bytes)

-- There is a header, with a name. The list of entries doesn't continue elsewhere. The bytes end
-- after the number of entries that the header gives.
pub record HasShape (bytes : List ℕ) : Type 0 where
  pub header : header_size ≤ length bytes
  pub name : HasName bytes
  pub next_list : u32_at bytes next_list_at ≡ 0
  pub ends : length bytes ≡ entry_offset (resources_in bytes) (entry_count_in bytes)
