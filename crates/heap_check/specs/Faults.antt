-- The faults of a heap image, in the order in which they are tested.
use Rattle.std.specs.Prelude.{◌≡◌, ◌≢◌, ◌<◌, ◌+◌, ◌⊎◌, ℕ, List, [], ◌∷◌, length, codes}
use Rattle.heap_model.specs.Bytes.{u16_at, u32_at}
use Rattle.heap_model.specs.Chunk.{Chunk, Spelled, SpelledAll}
use Rattle.heap_model.specs.Placed.{AnyPlaced, FirstWithout, FirstOne}
use Rattle.heap_model.specs.Slots.{Table, slot_count, head_end, slots_of, area_start, first_next, further_tables}
use Rattle.heap_model.specs.Frame.{magic, chained_magic, magic_at, size_at, reserved_at, frame_size}
use Rattle.heap_model.specs.Heap.{TableHere, IsTablePlace, Tiles, IsKnownIfFixed, HasDirectory}
use Rattle.heap_model.specs.Pairing.{HoldsBody, NamesItsSlot}
use Rattle.heap_model.specs.Reading.{chunks_of}
use Rattle.chunk_format.specs.Blank.{IsRegionSize}
use Rattle.heap_check.specs.declared.fault.HeapFault.{HeapFault}
use Rattle.heap_check.specs.declared.fault.HeapFault.TheVariants.{TooShort, BadMagic, BadSize, BadSlotCount, BadReserved, BadPadding, BadChunk, BadTable, SlotMismatch, ChunkWithoutSlot, BadFixedOwner, BadDirectory}
use Rattle.heap_check.specs.declared.fault.Numbers.{Numbers}
use Rattle.heap_check.specs.declared.fault.Numbers.TheVariants.{Zero, One}

-- ---- each fault by itself

-- the first four bytes are those of one of the two layouts
abbrev pub HasMagic : List ℕ → Type 0
HasMagic image = (u32_at image magic_at ≡ magic) ⊎ (u32_at image magic_at ≡ chained_magic)

-- too short for a frame, or the magic is there and the size field is above the length
abbrev pub IsTooShort : List ℕ → Type 0
IsTooShort image = (length image < frame_size) ⊎ (HasMagic image × (length image < u32_at image size_at))

-- the first four bytes are no magic
abbrev pub HasBadMagic : List ℕ → Type 0
HasBadMagic image = HasMagic image → ⊥

-- the size field isn't the length, or no image may have this length
abbrev pub HasBadSize : List ℕ → Type 0
HasBadSize image = (u32_at image size_at ≢ length image) ⊎ (IsRegionSize (length image) → ⊥)

-- there are no slots, or less than 8 bytes are left after the table and its padding
abbrev pub HasBadSlotCount : List ℕ → Type 0
HasBadSlotCount image = (slot_count image ≡ 0) ⊎ (length image < area_start image + 8)

-- the two bytes after the slot count aren't zero
abbrev pub HasBadReserved : List ℕ → Type 0
HasBadReserved image = u16_at image reserved_at ≢ 0

-- there is padding, and a byte of it isn't zero
abbrev pub HasBadPadding : List ℕ → Type 0
HasBadPadding image = (head_end image ≢ area_start image) × (u32_at image (head_end image) ≢ 0)

-- adjacent chunks reach up to this offset within the image, and no chunk is spelled there
pub record IsBadChunk (image : List ℕ) (at : ℕ) : Type 0 where
  pub before : List Chunk
  pub spelled : SpelledAll image (area_start image) before at
  pub inside : at < length image
  pub nothing : (chunk : Chunk) → Spelled image at chunk → ⊥

-- the chain has these tables from one word `next` up to another, and none of them twice
abbrev pub Leads : List ℕ → List Chunk → ℕ → List Table → ℕ → Type 0
Leads image chunks next [] last = next ≡ last
Leads image chunks next (table ∷ tables) last =
    (next ≡ table.place) × AnyPlaced (TableHere table) (area_start image) chunks × (IsTablePlace tables table.place → ⊥) × Leads image chunks (u32_at image table.place) tables last

-- The chunks reach the end of the image. The chain has `number` further tables, and then a word
-- `next` that isn't 0. No table is at the place in that word, but for the tables before it.
pub record IsBadTable (image : List ℕ) (number : ℕ) : Type 0 where
  pub area : SpelledAll image (area_start image) (chunks_of image) (length image)
  pub tables : List Table
  pub count : length tables ≡ number
  pub next : ℕ
  pub leads : Leads image (chunks_of image) (first_next image) tables next
  pub more : next ≢ 0
  pub no_other : (table : Table) → AnyPlaced (TableHere table) (area_start image) (chunks_of image) → table.place ≡ next → IsTablePlace tables next

-- the first slot in use that doesn't hold the place of a movable chunk which names it
abbrev pub IsSlotMismatch : List ℕ → ℕ → Type 0
IsSlotMismatch image slot = Tiles image (chunks_of image) × FirstOne (HoldsBody image (chunks_of image)) (slots_of image) slot

-- the first movable chunk, by its offset, that names no slot which holds its place
abbrev pub IsChunkWithoutSlot : List ℕ → ℕ → Type 0
IsChunkWithoutSlot image at = Tiles image (chunks_of image) × FirstWithout (NamesItsSlot image) (area_start image) (chunks_of image) at

-- the first fixed chunk, by its offset, with owner 15, or with owner 0 and no table
abbrev pub IsBadFixedOwner : List ℕ → ℕ → Type 0
IsBadFixedOwner image at = Tiles image (chunks_of image) × FirstWithout (IsKnownIfFixed (further_tables image)) (area_start image) (chunks_of image) at

-- the directory word is neither 0 nor a slot whose chunk is the manager's
abbrev pub HasBadDirectory : List ℕ → Type 0
HasBadDirectory image = Tiles image (chunks_of image) × (HasDirectory image (chunks_of image) → ⊥)

-- ---- the table of faults

infix 70 ◌brings◌
-- if P holds, the image has this fault
abbrev pub ◌brings◌ : {Fault : Type 0} → Type 0 → Fault → Fault → Type 0
◌brings◌ P named fault = P × (fault ≡ named)

infix 70 ◌locates◌
-- for each offset that satisfies P, the image has this fault with the offset
abbrev pub ◌locates◌ : {Fault : Type 0} → (ℕ → Type 0) → (ℕ → Fault) → Fault → Type 0
◌locates◌ P named fault = (offset : ℕ) × P offset × (fault ≡ named offset)

-- the faults of an image that is tiled
abbrev pub slot_faults : List ℕ → List (HeapFault → Type 0)
slot_faults image =
    (IsSlotMismatch image locates SlotMismatch)
    ∷ (IsChunkWithoutSlot image locates ChunkWithoutSlot)
    ∷ (IsBadFixedOwner image locates BadFixedOwner)
    ∷ (HasBadDirectory image brings BadDirectory)
    ∷ []

-- the faults of the chunks and of the chain of tables, and then those of a tiled image
abbrev pub area_faults : List ℕ → List (HeapFault → Type 0)
area_faults image = (IsBadChunk image locates BadChunk) ∷ (IsBadTable image locates BadTable) ∷ slot_faults image

-- all faults: those of the bytes before the chunks, and then those of the chunks and the slots
abbrev pub faults : List ℕ → List (HeapFault → Type 0)
faults image =
    (IsTooShort image brings TooShort)
    ∷ (HasBadMagic image brings BadMagic)
    ∷ (HasBadSize image brings BadSize)
    ∷ (HasBadSlotCount image brings BadSlotCount)
    ∷ (HasBadReserved image brings BadReserved)
    ∷ (HasBadPadding image brings BadPadding)
    ∷ area_faults image

-- the fault is one that the first row with any fault brings
abbrev pub FirstBrought : {Fault : Type 0} → List (Fault → Type 0) → Fault → Type 0
FirstBrought [] fault = ⊥
FirstBrought {Fault} (row ∷ rows) fault = row fault ⊎ (((other : Fault) → row other → ⊥) × FirstBrought rows fault)

-- the image has the fault, and none of those that are tested earlier
abbrev pub IsFirstHeapFault : List ℕ → HeapFault → Type 0
IsFirstHeapFault image fault = FirstBrought (faults image) fault

-- ---- names and numbers

-- the name of the fault of a heap, and its number
abbrev pub heap_fault_name : HeapFault → List ℕ
heap_fault_name TooShort = codes "TooShort"
heap_fault_name BadMagic = codes "BadMagic"
heap_fault_name BadSize = codes "BadSize"
heap_fault_name BadSlotCount = codes "BadSlotCount"
heap_fault_name BadReserved = codes "BadReserved"
heap_fault_name BadPadding = codes "BadPadding"
heap_fault_name (BadChunk at) = codes "BadChunk"
heap_fault_name (BadTable index) = codes "BadTable"
heap_fault_name (SlotMismatch at) = codes "SlotMismatch"
heap_fault_name (ChunkWithoutSlot at) = codes "ChunkWithoutSlot"
heap_fault_name (BadFixedOwner at) = codes "BadFixedOwner"
heap_fault_name BadDirectory = codes "BadDirectory"

abbrev pub heap_fault_numbers : HeapFault → Numbers
heap_fault_numbers TooShort = Zero
heap_fault_numbers BadMagic = Zero
heap_fault_numbers BadSize = Zero
heap_fault_numbers BadSlotCount = Zero
heap_fault_numbers BadReserved = Zero
heap_fault_numbers BadPadding = Zero
heap_fault_numbers (BadChunk at) = One at
heap_fault_numbers (BadTable index) = One index
heap_fault_numbers (SlotMismatch at) = One at
heap_fault_numbers (ChunkWithoutSlot at) = One at
heap_fault_numbers (BadFixedOwner at) = One at
heap_fault_numbers BadDirectory = Zero
