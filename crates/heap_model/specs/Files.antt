-- Files of databases, PDB and PRC (File Format Specification): the faults of a file, the database
-- that is read from it, and the file that is written for a database.
--
-- A file has offsets where a header in a heap has slots, so one function, `database_in`, reads
-- both. An info block that isn't there has the offset 0. So has the data of a deleted record that
-- has none. The lengths of blocks aren't stored.
use Rattle.std.specs.Prelude.{◌≡◌, ◌≢◌, ◌<◌, ◌+◌, ◌==◌, ◌&&◌, ◌⊎◌, ◌++◌, not, min, nat_lt, nat_le, if◌then◌else◌, ℕ, zero, suc, true, false, Bool, List, [], ◌∷◌, length, take, drop, map, filter, slice_index, slice_range, bit_and, Option, Some, None, All, codes}
use Rattle.std.specs.List.{AllZip, flat_map, fold}
use Rattle.heap_model.specs.Bytes.{u32_at}
use Rattle.heap_model.specs.Lists.{numbered, times}
use Rattle.heap_model.specs.DatabaseFields.{app_info_at, sort_info_at, next_list_at, header_size}
use Rattle.heap_model.specs.Database.{Database, Entry, a_record, a_resource, entry_data, data_in, entry_with, has_resources, is_deleted, spelled, name_in, header_in, resources_in, entry_count_in, entry_offset, entry_in, database_in}
use Rattle.heap_model.specs.UniqueIds.{IsFresh, seed_in, with_seed}
use Rattle.heap_model.specs.Store.{unique_ids}
use Rattle.heap_model.specs.declared.names.Which.TheVariants.{App, Sort}
use Rattle.heap_model.specs.declared.file_fault.FaultyPart.{FaultyPart}
use Rattle.heap_model.specs.declared.file_fault.FaultyPart.TheVariants as parts
use Rattle.heap_model.specs.declared.file_fault.FileFault.{FileFault}
use Rattle.heap_model.specs.declared.file_fault.FileFault.TheVariants.{Truncated, ChainedList, EmptyName, BadInfo, BadOffset}

-- ---- faults

-- the offset where the list of entries ends; the blocks come after it
abbrev pub entries_end : List ℕ → ℕ
entries_end file = entry_offset (resources_in file) (entry_count_in file)

-- no block may begin at this offset: it lies before the end of the entries, or after the end of the
-- file
abbrev pub IsOutside : List ℕ → ℕ → Type 0
IsOutside file at = (at < entries_end file) ⊎ (length file < at)

-- there is an info block, and it can't begin at the offset that the file gives
abbrev pub IsBadInfo : List ℕ → ℕ → Type 0
IsBadInfo file at = (at ≢ 0) × IsOutside file at

-- An entry has data, and the data can't begin at the offset that the file gives. Only a deleted
-- record may have no data.
abbrev pub HasBadOffset : List ℕ → Entry ℕ → Type 0
HasBadOffset file (a_record attributes id at) = ((at ≢ 0) ⊎ (is_deleted attributes ≡ false)) × IsOutside file at
HasBadOffset file (a_resource kind id at) = IsOutside file at

-- a file has this fault
abbrev pub HasFault : List ℕ → FileFault → Type 0
HasFault file Truncated = (length file < header_size) ⊎ (length file < entries_end file)
HasFault file ChainedList = u32_at file next_list_at ≢ 0
HasFault file EmptyName = name_in file ≡ []
HasFault file (BadInfo App) = IsBadInfo file (u32_at file app_info_at)
HasFault file (BadInfo Sort) = IsBadInfo file (u32_at file sort_info_at)
HasFault file (BadOffset index) = (index < entry_count_in file) × HasBadOffset file (entry_in file index)

-- the name of the fault, and the part of the file that has it
abbrev pub file_fault_name : FileFault → List ℕ
file_fault_name Truncated = codes "Truncated"
file_fault_name ChainedList = codes "ChainedList"
file_fault_name EmptyName = codes "EmptyName"
file_fault_name (BadInfo which) = codes "BadInfo"
file_fault_name (BadOffset index) = codes "BadOffset"

abbrev pub faulty_part : FileFault → FaultyPart
faulty_part Truncated = parts.Whole
faulty_part ChainedList = parts.Whole
faulty_part EmptyName = parts.Whole
faulty_part (BadInfo which) = parts.Block which
faulty_part (BadOffset index) = parts.Entry index

-- the faults in their order; those of entries are in the order of the entries
abbrev pub file_faults : List ℕ → List FileFault
file_faults file = Truncated ∷ ChainedList ∷ EmptyName ∷ BadInfo App ∷ BadInfo Sort ∷ numbered BadOffset (entry_count_in file)

-- a file has this fault, and none that comes before it
pub record IsFirstFault (file : List ℕ) (fault : FileFault) : Type 0 where
  pub before : List FileFault
  pub after : List FileFault
  pub order : file_faults file ≡ before ++ fault ∷ after
  pub earlier : All (λ other. HasFault file other → ⊥) before
  pub here : HasFault file fault

-- a file has no fault
abbrev pub HasNoFault : List ℕ → Type 0
HasNoFault file = All (λ fault. HasFault file fault → ⊥) (file_faults file)

-- ---- its blocks

-- The offsets of the blocks of a file by their rank: AppInfo, SortInfo, and the data of the entries
-- in order. In a file without fault, the offset 0 means that there is no block.
abbrev pub offsets_in : List ℕ → List ℕ
offsets_in file = data_in (database_in file)

-- The offsets of the blocks that come after a block, ordered by offset and then by rank. Those of
-- an earlier rank have a greater offset, and those of a later rank a greater one or the same.
abbrev pub starts_behind : List ℕ → ℕ → ℕ → List ℕ
starts_behind offsets rank at = filter (nat_lt at) (take rank offsets) ++ filter (nat_le at) (drop (rank + 1) offsets)

-- the offset where a block ends: where the next one after it begins, or at the end of the file
abbrev pub block_end : List ℕ → ℕ → ℕ → ℕ
block_end file rank at = fold min (length file) (starts_behind (offsets_in file) rank at)

-- the block of a rank that begins at an offset, if that isn't 0
abbrev pub block_at : List ℕ → ℕ → ℕ → Option (List ℕ)
block_at file rank zero = None
block_at file rank (suc at) = Some (slice_range file (suc at) (block_end file rank (suc at)))

-- the blocks by their rank
abbrev pub blocks_in : List ℕ → List (Option (List ℕ))
blocks_in file = numbered (λ rank. block_at file rank (slice_index (offsets_in file) rank)) (length (offsets_in file))

-- ---- the IDs of its records

-- a record keeps its ID if that isn't 0 and no earlier record, with these IDs, has it
abbrev pub keeps_id : List ℕ → ℕ → Bool
keeps_id earlier id = not (id == 0) && (times id earlier == 0)

-- the IDs that their records keep, of a list that comes after the earlier IDs
abbrev pub kept_ids : List ℕ → List ℕ → List ℕ
kept_ids earlier [] = []
kept_ids earlier (id ∷ ids) =
    if keeps_id earlier id then id ∷ kept_ids (id ∷ earlier) ids else kept_ids (id ∷ earlier) ids

-- After the earlier records, each record has the ID that it keeps, or else a fresh one. A fresh one
-- isn't among the taken ones: it is then taken, and is the seed of the next.
abbrev pub AreGiven : List ℕ → List ℕ → ℕ → List ℕ → List ℕ → ℕ → Type 0
AreGiven taken earlier seed [] [] last_seed = last_seed ≡ seed
AreGiven taken earlier seed [] (one ∷ given) last_seed = ⊥
AreGiven taken earlier seed (id ∷ ids) [] last_seed = ⊥
AreGiven taken earlier seed (id ∷ ids) (one ∷ given) last_seed =
    ((keeps_id earlier id ≡ true) × (one ≡ id) × AreGiven taken (id ∷ earlier) seed ids given last_seed)
    ⊎ ((keeps_id earlier id ≡ false) × IsFresh taken seed one × AreGiven (one ∷ taken) (id ∷ earlier) one ids given last_seed)

-- Records with these IDs in a file have the given ones when they are read. The first use of each ID
-- but 0 is kept, over the whole list. The other records get fresh IDs in their order, and each
-- fresh ID is the next seed.
abbrev pub HaveIds : ℕ → List ℕ → List ℕ → ℕ → Type 0
HaveIds seed ids given last_seed = AreGiven (kept_ids [] ids) [] seed ids given last_seed

-- ---- the database that is read

-- the attributes of a record that isn't busy
abbrev pub idle_attributes : ℕ → ℕ
idle_attributes attributes = bit_and attributes 0xDF

-- an entry that isn't busy, and a database without busy records
abbrev pub idle_entry : {Data : Type 0} → Entry Data → Entry Data
idle_entry (a_record attributes id «data») = a_record (idle_attributes attributes) id «data»
idle_entry (a_resource kind id «data») = a_resource kind id «data»

abbrev pub idle : {Data : Type 0} → Database Data → Database Data
idle database = record database { entries = map idle_entry database.entries }

-- an entry of a file is read as this one, for any ID of a record and any data
abbrev pub IsReadAs : Entry ℕ → Entry (Option (List ℕ)) → Type 0
IsReadAs (a_record attributes id at) (a_record other_attributes other_id «data») = other_attributes ≡ idle_attributes attributes
IsReadAs (a_record attributes id at) (a_resource other_kind other_id «data») = ⊥
IsReadAs (a_resource kind id at) (a_record other_attributes other_id «data») = ⊥
IsReadAs (a_resource kind id at) (a_resource other_kind other_id «data») = (other_kind ≡ kind) × (other_id ≡ id)

-- The database that is read from a file without fault. Its seed is the last fresh ID, or that of
-- the file if there was none. No record is busy. Its info blocks and data are the blocks of the
-- file.
pub record Reads (file : List ℕ) (database : Database (Option (List ℕ))) : Type 0 where
  pub good : HasNoFault file
  pub last_seed : ℕ
  pub ids : HaveIds (seed_in (header_in file).seed) (unique_ids (database_in file)) (unique_ids database) last_seed
  pub header : database.header ≡ record (header_in file) { seed = with_seed (header_in file).seed last_seed }
  pub entries : AllZip IsReadAs (database_in file).entries database.entries
  pub blocks : data_in database ≡ blocks_in file

-- ---- the file that is written

-- the bytes of a block, their number, and its offset: 0 if there is none
abbrev pub block_bytes : Option (List ℕ) → List ℕ
block_bytes None = []
block_bytes (Some bytes) = bytes

abbrev pub block_size : Option (List ℕ) → ℕ
block_size block = length (block_bytes block)

abbrev pub block_offset : ℕ → Option (List ℕ) → ℕ
block_offset at None = 0
block_offset at (Some bytes) = at

-- entries with offsets for their data, which comes in their order without gaps, from an offset on
abbrev pub entries_with_offsets : ℕ → List (Entry (Option (List ℕ))) → List (Entry ℕ)
entries_with_offsets at [] = []
entries_with_offsets at (entry ∷ entries) = entry_with (block_offset at) entry ∷ entries_with_offsets (at + block_size (entry_data entry)) entries

-- a database with offsets for its blocks: AppInfo at an offset, then SortInfo, then the data
abbrev pub with_offsets : ℕ → Database (Option (List ℕ)) → Database ℕ
with_offsets at database =
    let sort : ℕ = at + block_size database.app_info in
    record {
      header = database.header;
      app_info = block_offset at database.app_info;
      sort_info = block_offset sort database.sort_info;
      entries = entries_with_offsets (sort + block_size database.sort_info) database.entries;
    }

-- the offset of its first block in its file: after the entries and two bytes
abbrev pub first_block : {Data : Type 0} → Database Data → ℕ
first_block database = entry_offset (has_resources database.header.attributes) (length database.entries) + 2

-- The file of a database: its header and its entries, none of them busy, two zeros, and the blocks.
unfoldable pub file_of : Database (Option (List ℕ)) → List ℕ
file_of database = spelled (with_offsets (first_block database) (idle database)) ++ 0 ∷ 0 ∷ flat_map block_bytes (data_in database)
