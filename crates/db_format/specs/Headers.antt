-- The headers that are read and written, as headers of a database.
use Rattle.std.specs.Prelude.{◌≡◌, ◌≤◌, ℕ, List, length}
use Rattle.heap_model.specs.Bytes.{u32_at, overwritten}
use Rattle.heap_model.specs.DatabaseFields.{header_size, next_list_at, app_info_at, sort_info_at}
use Rattle.heap_model.specs.Database.{DatabaseHeader, Database, IsDatabaseName, header_bytes, has_resources, IsSpelled, resources_in, entry_count_in, entry_offset}
use Rattle.heap_model.specs.DatabaseSteps.{with_info_block}
use Rattle.heap_model.specs.declared.names.Which.{Which}
use Rattle.heap_model.specs.declared.names.Which.TheVariants.{App, Sort}
use Rattle.heap_model.specs.declared.database.DbInfo.{DbInfo}
use Rattle.db_format.specs.declared.header.DbHeader.{DbHeader}

-- the values of a header that don't depend on the blocks and the entries of the database
abbrev pub header_values : DbHeader → DatabaseHeader
header_values header = record {
  name = header.name;
  attributes = header.attributes;
  version = header.version;
  creation_date = header.creation_date;
  modification_date = header.modification_date;
  backup_date = header.backup_date;
  modification_number = header.modification_number;
  kind = header.kind;
  creator = header.creator;
  seed = header.seed;
}

-- the values of a header that callers see: all but the slots of the info blocks
abbrev pub info_told : DbHeader → DbInfo
info_told header = record {
  name = header.name;
  attributes = header.attributes;
  version = header.version;
  creation_date = header.creation_date;
  modification_date = header.modification_date;
  backup_date = header.backup_date;
  modification_number = header.modification_number;
  kind = header.kind;
  creator = header.creator;
  seed = header.seed;
  entry_count = header.entry_count;
}

-- this is the header of the database
pub record IsHeaderOf (database : Database ℕ) (header : DbHeader) : Type 0 where
  pub values : header_values header ≡ database.header
  pub app_info : header.app_info ≡ database.app_info
  pub sort_info : header.sort_info ≡ database.sort_info
  pub entry_count : header.entry_count ≡ length database.entries

-- the database with this header instead of its own, and with the same entries
abbrev pub with_header : Database ℕ → DbHeader → Database ℕ
with_header database header = record database { header = header_values header; app_info = header.app_info; sort_info = header.sort_info }

-- If these bytes are written over the header of a database, the database has this header, and keeps
-- its entries. The header must have the number of the database's entries, and attributes with their
-- kind.
abbrev pub WritesHeader : DbHeader → List ℕ → Type 0
WritesHeader header bytes =
    (database : Database ℕ) (body : List ℕ) → IsSpelled database body → header.entry_count ≡ length database.entries → has_resources header.attributes ≡ has_resources database.header.attributes
    → IsSpelled (with_header database header) (overwritten body 0 bytes)

-- `now` has this header and `entry_count` entries, and the info blocks of `was`
pub record TakesHeader (was now : Database ℕ) (header : DatabaseHeader) (entry_count : ℕ) : Type 0 where
  pub values : now.header ≡ header
  pub app_info : now.app_info ≡ was.app_info
  pub sort_info : now.sort_info ≡ was.sort_info
  pub entries : length now.entries ≡ entry_count

-- the two headers differ only in the modification number, in the seed, or in the number of entries
abbrev pub HasModificationNumber : ℕ → Database ℕ → Database ℕ → Type 0
HasModificationNumber number was now = TakesHeader was now (record was.header { modification_number = number }) (length was.entries)

abbrev pub HasSeed : ℕ → Database ℕ → Database ℕ → Type 0
HasSeed seed was now = TakesHeader was now (record was.header { seed = seed }) (length was.entries)

abbrev pub HasEntryCount : ℕ → Database ℕ → Database ℕ → Type 0
HasEntryCount count was now = TakesHeader was now was.header count

-- the offset of the slot of an info block
abbrev pub info_block_at : Which → ℕ
info_block_at App = app_info_at
info_block_at Sort = sort_info_at

-- the two headers differ only in the slot of an info block
abbrev pub HasInfoBlock : Which → ℕ → Database ℕ → Database ℕ → Type 0
HasInfoBlock which slot was now = TakesHeader (with_info_block which slot was) now was.header (length was.entries)

-- If these bytes are written at this offset over the header of `was`, they make it the header of
-- each `now` with `Differs was now`.
abbrev pub WritesField : ℕ → List ℕ → (Database ℕ → Database ℕ → Type 0) → Type 0
WritesField at bytes Differs =
    (was now : Database ℕ) → IsDatabaseName was.header.name → Differs was now
    → overwritten (header_bytes was) at bytes ≡ header_bytes now

-- The bytes are a header, no further list of entries, and exactly as many entries as the header
-- has. A valid database also has a name.
pub record AreWholeBytes (bytes : List ℕ) : Type 0 where
  pub header : header_size ≤ length bytes
  pub next_list : u32_at bytes next_list_at ≡ 0
  pub ends : length bytes ≡ entry_offset (resources_in bytes) (entry_count_in bytes)
