-- The refusals, the reply and the effect of each call on files: one row a call. And the room that a
-- whole new database takes.
use Rattle.std.specs.Prelude.{◌≡◌, ◌≤◌, ◌<◌, ◌+◌, ◌++◌, ◌⊎◌, ◌==◌, if◌then◌else◌, ℕ, true, false, List, [], ◌∷◌, length, map, Option, Some, None, All}
use Rattle.std.specs.List.{Any}
use Rattle.heap_model.specs.Chunk.{data_owner}
use Rattle.heap_model.specs.Memory.{Memory}
use Rattle.heap_model.specs.Lending.{IsLent}
use Rattle.heap_model.specs.Heap.{directory_of}
use Rattle.heap_model.specs.Meaning.{ChunkMap}
use Rattle.heap_model.specs.Reading.{held}
use Rattle.heap_model.specs.Lists.{times}
use Rattle.heap_model.specs.Database.{Database, data_in, name_in}
use Rattle.heap_model.specs.Files.{entries_end, HasFault, file_faults, blocks_in, Reads, file_of}
use Rattle.heap_model.specs.Store.{Store, directory_bytes, most_databases, content, listed_size}
use Rattle.heap_model.specs.Rooms.{Part, making, growth_part}
use Rattle.heap_model.specs.Refusals.{Check, ◌brings◌, ◌may_bring◌}
use Rattle.heap_model.specs.Steps.{Row, data_of}
use Rattle.heap_model.specs.MemorySteps.{Of}
use Rattle.heap_model.specs.StoreWords.{In, no_database, may_run_out, stays}
use Rattle.heap_model.specs.DatabaseSteps.{taken, a_database}
use Rattle.heap_model.specs.declared.names.Db.{Db}
use Rattle.heap_model.specs.declared.file_fault.FileFault.{FileFault}
use Rattle.heap_model.specs.declared.call.FileCall as given
use Rattle.heap_model.specs.declared.call.FileCall.TheVariants.{Import, Export}
use Rattle.heap_model.specs.declared.call.Reply.{Reply}
use Rattle.heap_model.specs.declared.call.Reply.TheVariants as replies
use Rattle.heap_model.specs.declared.refusal.Refusal.TheVariants.{BadFile, TooManyEntries, OutOfMemory, Lent}

-- ---- calls

-- a call on files, with databases given by their numbers
abbrev pub FileCall : Type 0
FileCall = given.FileCall Db (List ℕ)

-- the same call, with its database and its bytes given another way
abbrev pub file_call : {One Other Given Meant : Type 0} → (One → Other) → (Given → Meant) → given.FileCall One Given → given.FileCall Other Meant
file_call number bytes (Import file) = Import (bytes file)
file_call number bytes (Export db) = Export (number db)

-- ---- room for a whole new database

-- the chunks of these sizes, to be made one after the other
abbrev pub makings : List (Option ℕ) → List Part
makings [] = []
makings (None ∷ sizes) = makings sizes
makings (Some size ∷ sizes) = making size ∷ makings sizes

-- the part that takes one database more into the directory: it is made if there is none, and
-- otherwise it grows
abbrev pub listing_part : List ℕ → Part
listing_part image = if directory_of image == 0 then making listed_size else growth_part image (directory_of image) (length (directory_bytes image) + listed_size)

abbrev pub listing_slots : List ℕ → ℕ
listing_slots image = if directory_of image == 0 then 1 else 0

-- the parts in their order: the header, the info blocks, the data of the entries, and the directory
abbrev pub whole_parts : List ℕ → ℕ → List (Option ℕ) → List Part
whole_parts image size sizes = making size ∷ (makings sizes ++ listing_part image ∷ [])

-- how many slots the parts take
abbrev pub whole_slots : List ℕ → List (Option ℕ) → ℕ
whole_slots image sizes = 1 + (length (makings sizes) + listing_slots image)

-- ---- words of the rows

-- the checks of some faults of a file, in their order, and then other checks
abbrev pub fault_checks : List ℕ → List FileFault → List Check → List Check
fault_checks file [] behind = behind
fault_checks file (fault ∷ faults) behind = (HasFault file fault brings BadFile fault) ∷ fault_checks file faults behind

-- how many bytes a block has, if it is there
abbrev pub size_of_block : Option (List ℕ) → Option ℕ
size_of_block None = None
size_of_block (Some bytes) = Some (length bytes)

-- the sizes of the blocks of a file, by their rank
abbrev pub block_sizes : List ℕ → List (Option ℕ)
block_sizes file = map size_of_block (blocks_in file)

-- an allocation that the call needs may fail
abbrev pub no_memory : Check
no_memory = Unit {0} may_bring OutOfMemory

-- a block of the database is lent
abbrev pub lent_data : Memory → Store → Db → Check
lent_data old store db = In store db (λ database. Any (IsLent old) (data_in database)) brings Lent

-- ---- words of the effects

-- The name is 0; or it stood for nothing, and now stands for a chunk of data without a lock.
abbrev pub IsNewData : ChunkMap → ChunkMap → ℕ → Type 0
IsNewData old new name = (name ≡ 0) ⊎ ((old name ≡ None) × Of (new name) (λ live. (live.lock ≡ 0) × (live.owner ≡ data_owner)))

-- The store got a database of this number, after its others, with the contents that are read from a
-- file. The names in it are new chunks, each under a name of its own. Every other name stands for
-- the same as before.
pub record GainsRead (old new : Store) (db : ℕ) (file : List ℕ) : Type 0 where
  pub database : Database ℕ
  pub databases : new.databases ≡ old.databases ++ record { db = db; database = database } ∷ []
  pub reads : Reads file (content new.map database)
  pub each : All (IsNewData old.map new.map) (data_in database)
  pub once : (name : ℕ) → 0 < name → times name (data_in database) ≤ 1
  pub others : (name : ℕ) → (0 < name → times name (data_in database) ≡ 0) → new.map name ≡ old.map name

-- the same for the database in the reply
abbrev pub reads_with : List ℕ → Reply → Store → Store → Type 0
reads_with file (replies.Database db) old new = GainsRead old new db.0 file
reads_with file reply old new = ⊥

-- ---- the rows

-- the row of a call on a region that means a store
abbrev pub file_row : Memory → Store → FileCall → Row Store
file_row old store (Import file) = record {
  only_asks = false;
  refusals =
      fault_checks file (file_faults file)
      (taken store 0 (name_in file)
      ∷ ((most_databases ≤ length store.databases) brings TooManyEntries)
      ∷ no_memory
      ∷ may_run_out old.bytes (whole_slots old.bytes (block_sizes file)) (whole_parts old.bytes (entries_end file) (block_sizes file))
      ∷ []);
  answers = a_database (λ db. held old.bytes db.0 ≡ None);
  effect = reads_with file;
}
file_row old store (Export db) = record {
  only_asks = true;
  refusals =
      no_database store db
      ∷ lent_data old store db
      ∷ no_memory
      ∷ [];
  answers = data_of (λ bytes. In store db (λ database. bytes ≡ file_of (content store.map database)));
  effect = stays;
}
