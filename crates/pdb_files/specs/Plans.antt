-- The plan for the database that is read from a file, before any of it is made.
use Rattle.std.specs.Prelude.{◌≡◌, ◌<◌, ◌+◌, ◌-◌, ◌^◌, ℕ, Bool, true, false, List, length, slice_index, slice_index_or, Option, Some, None}
use Rattle.std.specs.List.{AllZip, filter_map}
use Rattle.heap_model.specs.UniqueIds.{seed_in}
use Rattle.heap_model.specs.Database.{Entry, a_record, a_resource, header_in, resources_in, entry_in, database_in}
use Rattle.heap_model.specs.Store.{unique_ids}
use Rattle.heap_model.specs.Files.{HaveIds, idle_attributes, blocks_in}
use Rattle.heap_model.specs.FileSteps.{size_of_block, block_sizes}
use Rattle.pdb_format.specs.ReadFiles.{header_read}
use Rattle.pdb_format.specs.declared.blocks.Block.{Block}
use Rattle.palm_store.specs.declared.entries.infos.EntryInfo.TheVariants as infos
use Rattle.palm_store.specs.WholeDatabases.{WholeEntry, size_of_data, data_sizes, CanCome, id_asked, CanBeWhole, header_asked}
use Rattle.pdb_files.specs.declared.importing.plan.Plan.{Plan}

-- a block is absent or has less than 4 GiB
abbrev pub IsShort : Option Block → Type 0
IsShort None = Unit {0}
IsShort (Some block) = block.end - block.start < 2 ^ 32

-- ---- entries

-- an entry of a file is planned as this one, apart from a record's ID and the data
abbrev pub IsPlannedAs : Entry ℕ → WholeEntry → Type 0
IsPlannedAs (a_record attributes id at) (infos.Record other_attributes other_id, size) = other_attributes ≡ idle_attributes attributes
IsPlannedAs (a_record attributes id at) (infos.Resource other_kind other_id, size) = ⊥
IsPlannedAs (a_resource kind id at) (infos.Record other_attributes other_id, size) = ⊥
IsPlannedAs (a_resource kind id at) (infos.Resource other_kind other_id, size) = (other_kind ≡ kind) × (other_id ≡ id)

-- the unique ID that is planned for the entry at an index, if it is a record
abbrev pub id_planned : Bool → List ℕ → ℕ → Option ℕ
id_planned false ids index = Some (slice_index ids index)
id_planned true ids index = None

-- this is the plan for the entry at an index, with these IDs for records; a database can have it
pub record IsPlannedOf (file ids : List ℕ) (index : ℕ) (entry : WholeEntry) : Type 0 where
  pub planned : IsPlannedAs (entry_in file index) entry
  pub size : size_of_data entry ≡ size_of_block (slice_index_or (blocks_in file) (2 + index) None)
  pub id : id_asked entry ≡ id_planned (resources_in file) ids index
  pub can : CanCome (resources_in file) entry

-- these are the plans for the first `count` entries
pub record ArePlannedOf (file ids : List ℕ) (entries : List WholeEntry) (count : ℕ) : Type 0 where
  pub long : length entries ≡ count
  pub each : (index : ℕ) (default : WholeEntry) → index < count → IsPlannedOf file ids index (slice_index_or entries index default)

-- ---- all of it

-- A database can be made by the plan, and it is the one read from the file. Its header and its
-- entries are those of the file, with the IDs that the records get. The sizes are those of the
-- file's blocks.
pub record IsPlan (file : List ℕ) (plan : Plan) : Type 0 where
  pub can : CanBeWhole plan.info plan.entries.items
  pub last_seed : ℕ
  pub ids : HaveIds (seed_in (header_in file).seed) (unique_ids (database_in file)) (filter_map id_asked plan.entries.items) last_seed
  pub header : header_asked plan.info ≡ header_read file last_seed
  pub entries : AllZip IsPlannedAs (database_in file).entries plan.entries.items
  pub sizes : data_sizes plan.sizes plan.entries.items ≡ block_sizes file
