-- The rows of the calls on a store: all managers' rows together, those of the memory manager as
-- calls on a store. And the step that a call makes.
use Rattle.std.specs.Prelude.{◌≡◌, ◌⊎◌, ◌++◌, if◌then◌else◌, Bool, true, false, length, ℕ, List, [], ◌∷◌}
use Rattle.std.specs.Bool.{OnTrue}
use Rattle.heap_model.specs.Memory.{Memory}
use Rattle.heap_model.specs.Lending.{KeepsLoan}
use Rattle.heap_model.specs.Slots.{Tables, tables_of}
use Rattle.heap_model.specs.Heap.{directory_of}
use Rattle.heap_model.specs.Meaning.{ChunkMap}
use Rattle.heap_model.specs.Space.{free_total, free_slots, Still}
use Rattle.heap_model.specs.Store.{Store, Accepted, store_of}
use Rattle.heap_model.specs.Steps.{Row, StepBy}
use Rattle.heap_model.specs.MemorySteps as memory
use Rattle.heap_model.specs.StoreWords.{SameStore}
use Rattle.heap_model.specs.DatabaseSteps.{database_call, database_row}
use Rattle.heap_model.specs.RecordSteps.{record_call, record_row}
use Rattle.heap_model.specs.ResourceSteps.{resource_call, resource_row}
use Rattle.heap_model.specs.FileSteps.{file_call, file_row}
use Rattle.heap_model.specs.MoreTables.{gained}
use Rattle.heap_model.specs.declared.call.MemoryCall.TheVariants.{MoreSlots}
use Rattle.heap_model.specs.declared.call.DatabaseCall.TheVariants.{Create, Delete}
use Rattle.heap_model.specs.declared.call.RecordCall.TheVariants as records
use Rattle.heap_model.specs.declared.call.ResourceCall.TheVariants as resources
use Rattle.heap_model.specs.declared.call.FileCall.TheVariants.{Import, Export}
use Rattle.heap_model.specs.declared.names.Name.{Name}
use Rattle.heap_model.specs.declared.names.Db.{Db}
use Rattle.heap_model.specs.declared.call.Call as given
use Rattle.heap_model.specs.declared.call.Call.TheVariants as calls
use Rattle.heap_model.specs.declared.call.Reply.{Reply}
use Rattle.heap_model.specs.declared.call.Reply.TheVariants as replies

-- ---- calls

-- a call of any manager, by names and numbers
abbrev pub Call : Type 0
Call = given.Call Name Db (List ℕ)

-- the same call, with its chunk, its database and its bytes given in another way
abbrev pub call_by : {One Other ThisOne ThisOther Given Meant : Type 0} → (One → Other) → (ThisOne → ThisOther) → (Given → Meant) → given.Call One ThisOne Given → given.Call Other ThisOther Meant
call_by chunk number bytes (calls.Memory call) = calls.Memory (memory.memory_call chunk bytes call)
call_by chunk number bytes (calls.Database call) = calls.Database (database_call chunk number call)
call_by chunk number bytes (calls.Record call) = calls.Record (record_call chunk number call)
call_by chunk number bytes (calls.Resource call) = calls.Resource (resource_call chunk number call)
call_by chunk number bytes (calls.File call) = calls.File (file_call number bytes call)

-- ---- the rows

-- A call of the memory manager on a store: its row on the chunks that callers may name. The
-- databases are unchanged.
abbrev pub lifted : Row ChunkMap → Row Store
lifted row = record {
  only_asks = row.only_asks;
  refusals = row.refusals;
  answers = row.answers;
  effect = λ reply before after. row.effect reply before.map after.map × (after.databases ≡ before.databases);
}

abbrev pub row : Memory → Store → Call → Row Store
row old store (calls.Memory call) = lifted (memory.row old store.map call)
row old store (calls.Database call) = database_row old store call
row old store (calls.Record call) = record_row old store call
row old store (calls.Resource call) = resource_row old store call
row old store (calls.File call) = file_row old store call

-- ---- the step

-- The region means the same store as before, and as much is free.
pub record StoreAsBefore (old new : Memory) : Type 0 where
  pub store : SameStore (store_of new.bytes) (store_of old.bytes)
  pub free : free_total new.bytes ≡ free_total old.bytes
  pub slots : free_slots new.bytes ≡ free_slots old.bytes

-- the row of a call on a region
abbrev pub row_of : Memory → Call → Row Store
row_of old call = row old (store_of old.bytes) call

-- the call's step on the store that the region means
abbrev pub StoreStep : Memory → Call → Reply → Memory → Type 0
StoreStep old call reply new = StepBy (row_of old call) (StoreAsBefore old new) (store_of old.bytes) reply new (store_of new.bytes)

-- the call has made a database, and may have made the directory for it
abbrev pub HasMade : Call → Reply → Type 0
HasMade (calls.Database (Create name kind creator resources date)) (replies.Database db) = Unit {0}
HasMade (calls.File (Import file)) (replies.Database db) = Unit {0}
HasMade call reply = ⊥

-- the calls that may slide bytes: of chunks that move, or within one chunk
abbrev pub may_slide_bytes : Call → Bool
may_slide_bytes (calls.Memory call) = memory.may_slide call
may_slide_bytes (calls.Database (Create name kind creator resources date)) = true
may_slide_bytes (calls.Database (Delete db)) = true
may_slide_bytes (calls.Database call) = false
may_slide_bytes (calls.Record (records.New db at size)) = true
may_slide_bytes (calls.Record (records.Remove db index)) = true
may_slide_bytes (calls.Record (records.Move db from to)) = true
may_slide_bytes (calls.Record (records.Resize db index size)) = true
may_slide_bytes (calls.Record (records.Attach db at name)) = true
may_slide_bytes (calls.Record (records.Detach db index owner)) = true
may_slide_bytes (calls.Record call) = false
may_slide_bytes (calls.Resource (resources.New db kind id size)) = true
may_slide_bytes (calls.Resource (resources.Attach db kind id name)) = true
may_slide_bytes (calls.Resource (resources.Detach db index owner)) = true
may_slide_bytes (calls.Resource (resources.Remove db index)) = true
may_slide_bytes (calls.Resource (resources.Resize db index size)) = true
may_slide_bytes (calls.Resource call) = false
may_slide_bytes (calls.File (Import file)) = true
may_slide_bytes (calls.File (Export db)) = false

-- The tables after a call are those before it, in the same order, and so are the slots. An accepted
-- `MoreSlots` adds a table at the end. A chain stays a chain, and no call makes one.
abbrev pub LeavesTables : Call → Reply → Tables → Tables → Type 0
LeavesTables (calls.Memory MoreSlots) replies.Done before after = (place : ℕ) × (after ≡ record before { further = before.further ++ gained place ∷ [] })
LeavesTables call reply before after = after ≡ before

-- From an accepted image the call does its step to an accepted image. The new image has the same
-- size and the same tables, so the same slots; only `MoreSlots` adds a table. No locked chunk has
-- moved, and each lent body stays lent at its place. All this is true of a refused call too. The
-- directory is the same chunk, unless there was none and a database was made. Of the region's value
-- only the bytes may change, and the count of slid bytes if the call may slide bytes. A call that
-- only asks changes nothing.
pub record DoesInStore (old : Memory) (call : Call) (reply : Reply) (new : Memory) : Type 0 where
  pub before : Accepted old.bytes
  pub step : StoreStep old call reply new
  pub accepted : Accepted new.bytes
  pub len : length new.bytes ≡ length old.bytes
  pub tables : LeavesTables call reply (tables_of old.bytes) (tables_of new.bytes)
  pub directory : (directory_of new.bytes ≡ directory_of old.bytes) ⊎ ((directory_of old.bytes ≡ 0) × HasMade call reply)
  pub still : Still old.bytes new.bytes
  pub loan : KeepsLoan old new
  pub asks : OnTrue (row_of old call).only_asks (new ≡ old)
  pub rest : new ≡ record old { bytes = new.bytes; slid = if may_slide_bytes call then new.slid else old.slid }
