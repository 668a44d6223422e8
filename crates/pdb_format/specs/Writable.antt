-- The databases that can be written to files. The content of each database in an accepted image is
-- one of them.
use Rattle.std.specs.Prelude.{◌≡◌, ◌≢◌, ◌<◌, ◌+◌, ◌-◌, ◌^◌, ℕ, Bool, true, false, List, length, Option, None, All}
use Rattle.std.specs.List.{AllZip, flat_map}
use Rattle.heap_model.specs.Bytes.{AreBytes}
use Rattle.heap_model.specs.Lists.{Distinct}
use Rattle.heap_model.specs.UniqueIds.{seed_in, with_seed}
use Rattle.heap_model.specs.Database.{Database, Entry, a_record, a_resource, data_in, has_resources, is_deleted, IsDatabaseName, HeaderFits, entry_offset}
use Rattle.heap_model.specs.Store.{unique_ids}
use Rattle.heap_model.specs.Files.{HaveIds, block_bytes, first_block, idle_attributes}

-- The entry is a resource, or else a record, and its numbers fit their fields. A resource has data.
-- A record has data if it isn't deleted.
abbrev pub IsWritableEntry : Bool → Entry (Option (List ℕ)) → Type 0
IsWritableEntry false (a_record attributes id block) = (attributes < 2 ^ 8) × (id < 2 ^ 24) × (block ≡ None → is_deleted attributes ≡ true)
IsWritableEntry false (a_resource kind id block) = ⊥
IsWritableEntry true (a_record attributes id block) = ⊥
IsWritableEntry true (a_resource kind id block) = (kind < 2 ^ 32) × (id < 2 ^ 16) × (block ≢ None)

-- the size of the file of a database in bytes: everything before its first block, and its blocks
abbrev pub file_size : Database (Option (List ℕ)) → ℕ
file_size database = first_block database + length (flat_map block_bytes (data_in database))

-- the greatest size of the part before the first block: a header, 65,535 entries of resources, and
-- two bytes
abbrev pub most_front : ℕ
most_front = entry_offset true (2 ^ 16 - 1) + 2

-- The name is valid, the numbers of the header and of the entries fit their fields, and the entries
-- are of the kind in the attributes. No two records have the same ID, and none has 0. The blocks
-- are bytes, and the file is short enough for its offsets.
pub record IsWritable (database : Database (Option (List ℕ))) : Type 0 where
  pub name : IsDatabaseName database.header.name
  pub header : HeaderFits database.header
  pub entries : All (IsWritableEntry (has_resources database.header.attributes)) database.entries
  pub entry_count : length database.entries < 2 ^ 16
  pub none_zero : All (λ id. id ≢ 0) (unique_ids database)
  pub distinct : Distinct (unique_ids database)
  pub blocks : All (λ block. AreBytes (block_bytes block)) (data_in database)
  pub size : file_size database < 2 ^ 32

-- The same, without conditions on the IDs of the records and on the bytes of the blocks. The
-- database has a file. The file may be read as another database.
pub record HasFile (database : Database (Option (List ℕ))) : Type 0 where
  pub name : IsDatabaseName database.header.name
  pub header : HeaderFits database.header
  pub entries : All (IsWritableEntry (has_resources database.header.attributes)) database.entries
  pub entry_count : length database.entries < 2 ^ 16
  pub size : file_size database < 2 ^ 32

-- ---- what is read of its file

-- an entry is read back as this one; a record's ID and the data may be any
abbrev pub IsKeptAs : Entry (Option (List ℕ)) → Entry (Option (List ℕ)) → Type 0
IsKeptAs (a_record attributes id block) (a_record other_attributes other_id other_block) = other_attributes ≡ idle_attributes attributes
IsKeptAs (a_record attributes id block) (a_resource other_kind other_id other_block) = ⊥
IsKeptAs (a_resource kind id block) (a_record other_attributes other_id other_block) = ⊥
IsKeptAs (a_resource kind id block) (a_resource other_kind other_id other_block) = (other_kind ≡ kind) × (other_id ≡ id)

-- The database that is read from the file of `database`. A record with the ID 0, or with the ID of
-- an earlier record, has a free ID. No record is busy. The seed is the last free ID that a record
-- got, or stays if none got one. Everything else is the same, and so are all blocks.
pub record IsReadBack (database read : Database (Option (List ℕ))) : Type 0 where
  pub last_seed : ℕ
  pub ids : HaveIds (seed_in database.header.seed) (unique_ids database) (unique_ids read) last_seed
  pub header : read.header ≡ record database.header { seed = with_seed database.header.seed last_seed }
  pub entries : AllZip IsKeptAs database.entries read.entries
  pub blocks : data_in read ≡ data_in database
