-- The statements of the laws of `heap_model`.
use Rattle.std.specs.Prelude.{◌≡◌, ◌≤◌, ◌<◌, ◌+◌, ◌%◌, ◌++◌, ◌↔◌, ℕ, Bool, List, ◌∷◌, length, count_by, true, false, Some, None}
use Rattle.std.specs.Option.{is_none}
use Rattle.heap_model.specs.Chunk.{Chunk, movable, need, Spelled}
use Rattle.heap_model.specs.Frame.{most_size}
use Rattle.heap_model.specs.Slots.{IsSlot, slots_of, tables_of, is_chained, area_start}
use Rattle.heap_model.specs.MoreTables.{gained_count, GainsTable}
use Rattle.heap_model.specs.Migration.{Migrates, MigratesBytes}
use Rattle.heap_model.specs.Placed.{EveryOne}
use Rattle.heap_model.specs.Heap.{Tiles, IsBody, Tied, HeapAccepted}
use Rattle.heap_model.specs.Meaning.{ChunkMap, Holds}
use Rattle.heap_model.specs.Reading.{chunk_at, chunks_of, held, is_accepted}
use Rattle.heap_model.specs.Space.{free_total, free_slots, rooms, NoRun, Short, ShortFor, room_of, place_of, Still, moved_bytes}
use Rattle.heap_model.specs.Rooms.{stretch_of}
use Rattle.heap_model.specs.Layout.{layout_of, Becomes}
use Rattle.heap_model.specs.Packing.{Packed, Slid, packed, moved_by_packing, WholeStretch}

-- an image is tiled by one list of chunks at most
abbrev pub TiledOnce : Type 0
TiledOnce = (image : List ℕ) (cs ds : List Chunk) → Tiles image cs → Tiles image ds → cs ≡ ds

-- the chunk that is read at an offset is the one that is spelled there
abbrev pub ChunksAreRead : Type 0
ChunksAreRead = (image : List ℕ) (at : ℕ) (chunk : Chunk) → ((chunk_at image at ≡ Some chunk) ↔ Spelled image at chunk)

-- the chunks that are read off an image are those that tile it
abbrev pub TilesAreRead : Type 0
TilesAreRead = (image : List ℕ) (cs : List Chunk) → Tiles image cs → chunks_of image ≡ cs

-- the list of an image's slots has the offset of each slot, and no other
abbrev pub SlotsAreListed : Type 0
SlotsAreListed = (image : List ℕ) → EveryOne (IsSlot image) (slots_of image) × ((P : ℕ → Bool) → EveryOne (λ slot. P slot ≡ true) (slots_of image) → (slot : ℕ) → IsSlot image slot → P slot ≡ true)

-- the test of an accepted heap is true exactly if the heap is accepted
abbrev pub AcceptanceIsDecided : Type 0
AcceptanceIsDecided = (image : List ℕ) → ((is_accepted image ≡ true) ↔ HeapAccepted image)

-- a slot in use has one chunk, and a chunk one slot
pub record PairsOne (image : List ℕ) (cs : List Chunk) : Type 0 where
  pub one_place : (slot place other : ℕ) → IsBody (area_start image) cs slot place → IsBody (area_start image) cs slot other → place ≡ other
  pub one_slot : (slot other place : ℕ) → IsBody (area_start image) cs slot place → IsBody (area_start image) cs other place → slot ≡ other

abbrev pub TiesPairOneToOne : Type 0
TiesPairOneToOne = (image : List ℕ) (cs : List Chunk) → Tiles image cs → Tied image cs → PairsOne image cs

-- an accepted heap holds the map that is read off it, and no other
abbrev pub HoldsOneMap : Type 0
HoldsOneMap = (image : List ℕ) → HeapAccepted image → Holds image (held image) × ((m n : ChunkMap) → Holds image m → Holds image n → m ≡ n)

-- in an accepted heap the name 0 names nothing
abbrev pub ZeroNamesNothing : Type 0
ZeroNamesNothing = (image : List ℕ) → HeapAccepted image → held image 0 ≡ None

-- the size of a chunk: a multiple of 8 with room for its header and its bytes, and less than 8
-- bytes more
pub record IsNeed (count : ℕ) : Type 0 where
  pub whole : need count % 8 ≡ 0
  pub least : 8 ≤ need count
  pub holds : count + 8 ≤ need count
  pub tight : need count < count + 16

abbrev pub NeedIsWhole : Type 0
NeedIsWhole = (count : ℕ) → IsNeed count

-- two images hold the same in the same places, and have the same room
pub record AreAlike (image other : List ℕ) : Type 0 where
  pub holds : (name : ℕ) → held image name ≡ held other name
  pub places : (name : ℕ) → place_of image name ≡ place_of other name
  pub free_bytes : free_total image ≡ free_total other
  pub room : rooms image ≡ rooms other
  pub runs : (size : ℕ) → NoRun (chunks_of image) size ↔ NoRun (chunks_of other) size

-- accepted heaps are alike if their chunks begin at the same offset and have the same layout
abbrev pub LayoutTells : Type 0
LayoutTells = (image other : List ℕ) → HeapAccepted image → HeapAccepted other → area_start image ≡ area_start other → layout_of image ≡ layout_of other → AreAlike image other

-- packing slides the chunks, and leaves them packed
abbrev pub PackingIsPacked : Type 0
PackingIsPacked = (chunks : List Chunk) → Packed (packed chunks) × Slid chunks (packed chunks)

-- if chunks slid to a heap that is packed, they determine its list of chunks and its layout
abbrev pub PackedOnce : Type 0
PackedOnce =
    (chunks : List Chunk) (image : List ℕ) → HeapAccepted image
    → (Packed (chunks_of image) → Slid chunks (chunks_of image) → chunks_of image ≡ packed chunks) × (Packed (layout_of image) → Slid chunks (layout_of image) → layout_of image ≡ packed chunks)

-- Every name stands for what it stood for, in the same stretch. Nothing locked or fixed has moved,
-- and the room is the same.
pub record SlidAlike (old new : List ℕ) : Type 0 where
  pub holds : (name : ℕ) → held new name ≡ held old name
  pub stays : Still old new
  pub free_bytes : free_total new ≡ free_total old
  pub slots : free_slots new ≡ free_slots old
  pub room : rooms new ≡ rooms old
  pub stretch : (name : ℕ) → stretch_of new name ≡ stretch_of old name

-- after chunks slide, a heap is alike in this sense
abbrev pub SlidingKeeps : Type 0
SlidingKeeps = (old new : List ℕ) (chunks : List Chunk) → HeapAccepted old → Becomes old new chunks → Slid (chunks_of old) chunks → SlidAlike old new

-- after packing, no run has a size exactly if the old heap was short of that size
abbrev pub PackingJoinsRooms : Type 0
PackingJoinsRooms = (old new : List ℕ) (size : ℕ) → HeapAccepted old → Becomes old new (packed (chunks_of old)) → 0 < size → NoRun (chunks_of new) size ↔ Short old size

-- the chunks that have another place after packing are those that packing moves
abbrev pub PackingMoves : Type 0
PackingMoves = (old new : List ℕ) → Becomes old new (packed (chunks_of old)) → moved_bytes old new ≡ moved_by_packing (chunks_of old)

-- An image is short of a size for a movable chunk without locks exactly if two conditions are met.
-- The image is short of the size, and the room of the chunk's stretch and the chunk's own size
-- together are less than the size.
abbrev pub OwnRoomCounts : Type 0
OwnRoomCounts =
    (image : List ℕ) (before front : List Chunk) (bytes : List ℕ) (owner slot : ℕ) (back after : List Chunk) (size : ℕ) → HeapAccepted image → WholeStretch image before (front ++ movable bytes 0 owner slot ∷ back) after
    → ShortFor image slot size ↔ (Short image size × (room_of (front ++ back) + need (length bytes) < size))

-- accepted heaps of one size, with the same tables, that hold the same map have as much free
abbrev pub HeldTellsFree : Type 0
HeldTellsFree =
    (image other : List ℕ) → HeapAccepted image → HeapAccepted other → length other ≡ length image → tables_of other ≡ tables_of image → ((name : ℕ) → held other name ≡ held image name)
    → (free_total other ≡ free_total image) × (free_slots other ≡ free_slots image)

-- the number of free slots is the number of slots that name nothing
abbrev pub SlotsAreNames : Type 0
SlotsAreNames = (image : List ℕ) → HeapAccepted image → free_slots image ≡ count_by (λ slot. is_none (held image slot)) (slots_of image)

-- a table that is added has 15 free slots, if each name stands for what it stood for
abbrev pub GainedSlotsAreFree : Type 0
GainedSlotsAreFree = (old new : List ℕ) (place : ℕ) → HeapAccepted old → GainsTable old new place → ((name : ℕ) → held new name ≡ held old name) → free_slots new ≡ free_slots old + gained_count

-- An image with one table becomes one with a chain. If the bytes of the new image are those of
-- `MigratesBytes`, it holds what the old one held, with the names of fixed chunks greater by `by`.
abbrev pub BytesTellMigration : Type 0
BytesTellMigration = (old new : List ℕ) (by : ℕ) → HeapAccepted old → is_chained old ≡ false → length new ≤ most_size → MigratesBytes old new by → Migrates old new by
