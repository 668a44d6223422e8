-- The data of a heap in addition to its region, and the name whose chunk is at a place.
use Rattle.std.specs.Prelude.{◌≡◌, ◌≢◌, ◌<◌, ◌≤◌, ◌⊎◌, ℕ, List, Some, None}
use Rattle.heap_model.specs.Memory.{Memory}
use Rattle.heap_model.specs.Bytes.{u32_at}
use Rattle.heap_model.specs.Slots.{IsSlot}
use Rattle.heap_model.specs.Meaning.{LiveChunk}
use Rattle.heap_model.specs.Chunk.{fixed_lock, need, managers_owner}
use Rattle.heap_model.specs.Reading.{held, chunks_of}
use Rattle.heap_model.specs.Maps.{callers_map, made}
use Rattle.heap_model.specs.Space.{place_of, free_slots, Short, NoRun, FitsInPlace, MovesNothing}
use Rattle.heap_model.specs.Store.{owner_under}
use Rattle.heap_model.specs.Lending.{IsLent, HoldsHeap, LendsOther}
use Rattle.heap_model.specs.Leaving.{Leaves}
use Rattle.heap_model.specs.Refusals.{Check}
use Rattle.heap_model.specs.MemorySteps.{growth_checks}
use Rattle.master_table.specs.Table.{UsedBefore, IsStart}
use Rattle.master_table.specs.declared.slots.TableStart.{TableStart}
pub use Rattle.heap_place.specs.declared.found.Found.{Found}
use Rattle.heap_place.specs.Found.{IsFound}
use Rattle.mem_manager.specs.Known.{KnowsHeld}

-- `slot` is an empty slot, and the first `before` slots are in use
pub record IsNextEmpty (image : List ℕ) (slot before : ℕ) : Type 0 where
  pub is_slot : IsSlot image slot
  pub empty : u32_at image slot ≡ 0
  pub used : UsedBefore image before

-- a slot is at the offset `slot`, or `slot` is 0
abbrev pub IsSlotOrNone : List ℕ → ℕ → Type 0
IsSlotOrNone image slot = 0 < slot → IsSlot image slot

-- The memory is a heap. Its first `used` slots are in use, and `start` is the start of a table. A
-- slot was freed at `freed`, unless that is 0. Each remembered name has a chunk.
pub record IsManaged (memory : Memory) (used : ℕ) (start : TableStart) (freed : ℕ) (names : List ℕ) : Type 0 where
  pub heap : HoldsHeap memory
  pub in_use : UsedBefore memory.bytes used
  pub starts : IsStart memory.bytes start
  pub free : IsSlotOrNone memory.bytes freed
  pub known : KnowsHeld memory.bytes names

-- a caller's chunk was found in a heap under a name
pub record IsCallers (memory : Memory) (name : ℕ) (found : Found) : Type 0 where
  pub heap : HoldsHeap memory
  pub is : IsFound memory.bytes name found
  pub callers : 1 ≤ found.owner

-- a caller's chunk was found whose bytes can be written: it is locked or fixed, and not lent
pub record IsOpen (memory : Memory) (name : ℕ) (found : Found) : Type 0 where
  pub owned : IsCallers memory name found
  pub locked : found.lock ≢ 0
  pub other : LendsOther memory found.place.0

-- a name's chunk is a caller's, and its body is at this place
pub record IsThere (image : List ℕ) (place name : ℕ) : Type 0 where
  pub live : LiveChunk
  pub known : callers_map image name ≡ Some live
  pub there : place_of image name ≡ Some place

-- a name has a movable chunk, which may be locked
pub record IsMovable (image : List ℕ) (name : ℕ) : Type 0 where
  pub live : LiveChunk
  pub is_held : held image name ≡ Some live
  pub movable : live.lock ≢ fixed_lock

-- a name's chunk is movable, and is as it was found
pub record StandsAs (image : List ℕ) (name : ℕ) (found : Found) : Type 0 where
  pub is : IsFound image name found
  pub movable : found.lock ≢ fixed_lock

-- The body of a name's chunk is not lent, so it may be read and written. The manager's chunks are
-- never lent, since no caller can name them.
pub record IsHere (memory : Memory) (name : ℕ) : Type 0 where
  pub not_lent : owner_under memory.bytes name ≢ managers_owner → IsLent memory name → ⊥

-- ---- what the calls for the store leave

-- a movable chunk of `size` zeros was made under a name that had no chunk
pub record MakesNew (old new : List ℕ) (name size owner : ℕ) : Type 0 where
  pub fresh : held old name ≡ None
  pub leaves : Leaves old new (made (held old) name size owner 0)

-- no slot is free, or no stretch has the room for a chunk of `size` bytes
abbrev pub HasNoRoomFor : List ℕ → ℕ → Type 0
HasNoRoomFor image size = (free_slots image ≡ 0) ⊎ Short image (need size)

-- if a run of neighbouring free chunks has the room for a chunk of `size` bytes, nothing moves
abbrev pub MovesOnlyForRoom : List ℕ → List ℕ → ℕ → Type 0
MovesOnlyForRoom old new size = (NoRun (chunks_of old) (need size) → ⊥) → MovesNothing old new

-- if a name's chunk can have `size` bytes in its place, nothing moves
abbrev pub MovesOnlyToGrow : List ℕ → List ℕ → ℕ → ℕ → Type 0
MovesOnlyToGrow old new name size = FitsInPlace old name (need size) → MovesNothing old new

-- the refusals of giving a name's chunk `size` bytes
abbrev pub checks_of_growth : Memory → ℕ → ℕ → List Check
checks_of_growth memory name size = growth_checks memory (held memory.bytes) name size
