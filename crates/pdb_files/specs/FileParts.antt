-- The parts of the file of a database, which is given by its bytes in an image.
use Rattle.std.specs.Prelude.{◌≡◌, ◌+◌, ◌<◌, ◌^◌, ℕ, List, map, Option, All}
use Rattle.heap_model.specs.Memory.{Memory}
use Rattle.heap_model.specs.Lending.{IsLent}
use Rattle.heap_model.specs.Meaning.{ChunkMap}
use Rattle.heap_model.specs.Database.{Database, Entry, entry_with, data_in, database_in, IsSpelled, HasShape}
use Rattle.heap_model.specs.Store.{bytes_named, content, store_of}
use Rattle.heap_model.specs.Files.{idle_entry, block_size, block_offset, first_block}
use Rattle.pdb_format.specs.Writable.{file_size}
use Rattle.palm_store.specs.Files.{IsDataName}
use Rattle.pdb_files.specs.declared.exporting.places.Places.{Places}

-- the block that a slot stands for in an image, if any
abbrev pub block_under : List ℕ → ℕ → Option (List ℕ)
block_under image slot = bytes_named (store_of image).map slot

-- the content of the database that these bytes spell
abbrev pub content_of : List ℕ → List ℕ → Database (Option (List ℕ))
content_of image bytes = content (store_of image).map (database_in bytes)

-- a database names this slot, and its bytes may be read: it isn't lent
pub record MayBeRead (memory : Memory) (slot : ℕ) : Type 0 where
  pub named : IsDataName memory.bytes slot
  pub here : IsLent memory slot → ⊥

-- the database that these bytes spell names only chunks for data, and none of them is lent
abbrev pub NamesReadableData : Memory → List ℕ → Type 0
NamesReadableData memory bytes = All (MayBeRead memory) (data_in (database_in bytes))

-- the bytes are those of a database of which no block is lent, and whose file is short enough for
-- offsets of four bytes
pub record IsExportable (memory : Memory) (bytes : List ℕ) : Type 0 where
  pub shape : HasShape bytes
  pub spelled : IsSpelled (database_in bytes) bytes
  pub names : NamesReadableData memory bytes
  pub short : file_size (content_of memory.bytes bytes) < 2 ^ 32

-- the offsets in the header of a database's file, and the offset where the data of its entries
-- begins
pub record ArePlaces (database : Database (Option (List ℕ))) (places : Places) : Type 0 where
  pub app_info : places.app_info ≡ block_offset (first_block database) database.app_info
  pub sort_info : places.sort_info ≡ block_offset (first_block database + block_size database.app_info) database.sort_info
  pub «data» : places.«data» ≡ first_block database + block_size database.app_info + block_size database.sort_info

-- an entry as a file has it, with its data at an offset
abbrev pub file_entry : ChunkMap → ℕ → Entry ℕ → Entry ℕ
file_entry chunks at entry = entry_with (block_offset at) (idle_entry (entry_with (bytes_named chunks) entry))
