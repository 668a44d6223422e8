-- The header and the entries of a file, for C.
use Rattle.std.specs.Prelude.{◌≡◌, ◌<◌, ◌+◌, ◌⊎◌, ℕ, List, None, All, length, take, drop, slice_index_or}
use Rattle.heap_model.specs.Database.{Entry, a_record, a_resource, database_in, entry_count_in, entry_in, name_field, name_in}
use Rattle.heap_model.specs.DatabaseSteps.{info_of}
use Rattle.heap_model.specs.Files.{HasNoFault}
use Rattle.heap_model.specs.Lists.{numbered}
use Rattle.pdb_format.specs.Blocks.{places_in}
use Rattle.palmheap_c.specs.Answers.{IsFileFault, IsMemoryAnswer, no_fault, no_room}
use Rattle.palmheap_c.specs.Blocks.{IsInside, placed}
use Rattle.palmheap_c.specs.Infos.{database_from_c}
use Rattle.palmheap_c.specs.declared.answers.Answer.{Answer}
use Rattle.palmheap_c.specs.declared.blocks.Block.{Block}
use Rattle.palmheap_c.specs.declared.file_entries.FileEntry.{FileEntry}
use Rattle.palmheap_c.specs.declared.infos.DatabaseInfo.{DatabaseInfo}

-- ---- entries

-- an entry with the place of its data
abbrev pub entry_in_c : Entry ℕ → Block → FileEntry
entry_in_c (a_record attributes id at) block = record { start = block.start; end = block.end; kind = 0; id = id; attributes = attributes; has_data = block.is_there }
entry_in_c (a_resource kind id at) block = record { start = block.start; end = block.end; kind = kind; id = id; attributes = 0; has_data = block.is_there }

-- the place of the block of a rank: 0 for AppInfo, 1 for SortInfo, and 2 more than its index for the
-- data of an entry
abbrev pub place_of_rank : List ℕ → ℕ → Block
place_of_rank file rank = placed (slice_index_or (places_in file) rank None)

-- the entry at an index, with the place of its data
abbrev pub file_entry_at : List ℕ → ℕ → FileEntry
file_entry_at file index = entry_in_c (entry_in file index) (place_of_rank file (2 + index))

-- the place of an entry's data
abbrev pub place_of_data : FileEntry → Block
place_of_data entry = record { start = entry.start; end = entry.end; is_there = entry.has_data }

-- the entry's data lie within the first `size` bytes
abbrev pub HasDataInside : ℕ → FileEntry → Type 0
HasDataInside size entry = IsInside size (place_of_data entry)

-- ---- the result

-- the memory of the caller that is written
pub record Outputs : Type 0 where
  pub header : DatabaseInfo
  pub app : Block
  pub sort : Block
  pub entries : List FileEntry
  pub count : ℕ

abbrev pub outputs : DatabaseInfo → (app sort : Block) → List FileEntry → ℕ → Outputs
outputs header app sort entries count = record { header = header; app = app; sort = sort; entries = entries; count = count }

-- The file has no fault. These are its header, with zeros after the name, the places of its info
-- blocks, and its entries with the places of their data. All places lie within the file. The other
-- entries are unchanged.
pub record IsRead (file : List ℕ) (old new : Outputs) : Type 0 where
  pub good : HasNoFault file
  pub header_is : database_from_c new.header ≡ info_of (database_in file)
  pub name_is : new.header.name ≡ name_field (name_in file)
  pub app_is : new.app ≡ place_of_rank file 0
  pub sort_is : new.sort ≡ place_of_rank file 1
  pub counted : new.count ≡ entry_count_in file
  pub entries_are : take new.count new.entries ≡ numbered (file_entry_at file) new.count
  pub app_inside : IsInside (length file) new.app
  pub sort_inside : IsInside (length file) new.sort
  pub data_inside : All (HasDataInside (length file)) (take new.count new.entries)
  pub others : drop new.count new.entries ≡ drop new.count old.entries

-- the file has no fault, and there is no room for its entries; only the count was written
pub record HasMoreEntries (file : List ℕ) (old new : Outputs) : Type 0 where
  pub good : HasNoFault file
  pub counted : new.count ≡ entry_count_in file
  pub more : length old.entries < new.count
  pub same : new ≡ record old { count = new.count }

-- The result of reading a file. There are three cases:
-- - The header, the info blocks and the entries were written.
-- - There is no room for the entries, and only the count was written.
-- - The file has a fault, or it has none and an allocation failed. Nothing was written.
abbrev pub IsReadAnswer : List ℕ → (old new : Outputs) → Answer → Type 0
IsReadAnswer file old new found =
    ((found ≡ no_fault) × IsRead file old new)
    ⊎ (((found ≡ no_room) × HasMoreEntries file old new)
    ⊎ ((IsFileFault file found ⊎ (HasNoFault file × IsMemoryAnswer found)) × (new ≡ old)))
