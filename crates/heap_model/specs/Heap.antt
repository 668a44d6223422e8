-- The accepted heap.
use Rattle.std.specs.Prelude.{◌≡◌, ◌≢◌, ◌≤◌, ◌<◌, ◌+◌, ◌*◌, ◌%◌, ◌⊎◌, ◌↔◌, ℕ, List, [], ◌∷◌, length}
use Rattle.heap_model.specs.Bytes.{u16_at, u32_at}
use Rattle.heap_model.specs.Chunk.{Chunk, free, movable, fixed, SpelledAll, managers_owner, data_owner, next_size}
use Rattle.heap_model.specs.Placed.{EveryPlaced, AnyPlaced}
use Rattle.heap_model.specs.Frame.{magic, chained_magic, magic_at, size_at, reserved_at, directory_at, least_size, most_size}
use Rattle.heap_model.specs.Slots.{Table, IsSlot, slot_size, slot_count, head_end, area_start, first_next, further_tables}

-- The bytes before the chunks are right: the magic of one of the two layouts, the size of the whole
-- image, a slot count above 0, two zero bytes, and zeros where the first table needs padding. There
-- is room for at least one chunk. `IsChain` says what the word `next` after the table is.
pub record IsHead (image : List ℕ) : Type 0 where
  pub magic_is : (u32_at image magic_at ≡ magic) ⊎ (u32_at image magic_at ≡ chained_magic)
  pub size_is : u32_at image size_at ≡ length image
  pub least : least_size ≤ length image
  pub most : length image ≤ most_size
  pub whole : length image % 8 ≡ 0
  pub some_slot : 0 < slot_count image
  pub a_chunk_fits : area_start image + 8 ≤ length image
  pub reserved : u16_at image reserved_at ≡ 0
  pub padding : head_end image ≢ area_start image → u32_at image (head_end image) ≡ 0

-- the chunk at an offset is this table
abbrev pub TableHere : Table → ℕ → Chunk → Type 0
TableHere table at (free size) = ⊥
TableHere table at (movable bytes lock owner slot) = ⊥
TableHere table at (fixed bytes owner) = (owner ≡ managers_owner) × (at + 8 ≡ table.place) × (length bytes ≡ next_size + slot_size * table.count) × (0 < table.count)

-- The tables are those of the chain that a word `next` begins. The word is 0, or the place of the
-- first table. That table is a fixed chunk of the manager's with at least one slot, and its own
-- word `next` begins the others. So no table occurs twice in the chain.
abbrev pub IsChain : List ℕ → List Chunk → ℕ → List Table → Type 0
IsChain image chunks next [] = next ≡ 0
IsChain image chunks next (table ∷ tables) =
    (next ≡ table.place) × AnyPlaced (TableHere table) (area_start image) chunks × IsChain image chunks (u32_at image table.place) tables

-- The image is a head and then these chunks, without gap or rest, and its further tables are among
-- them.
pub record Tiles (image : List ℕ) (chunks : List Chunk) : Type 0 where
  pub head : IsHead image
  pub area : SpelledAll image (area_start image) chunks (length image)
  pub chain : IsChain image chunks (first_next image) (further_tables image)

-- the chunk at an offset is a movable one that names this slot and has its body at this place
abbrev pub BodyHere : ℕ → ℕ → ℕ → Chunk → Type 0
BodyHere slot place at (free size) = ⊥
BodyHere slot place at (movable bytes lock owner named) = (named ≡ slot) × (at + 8 ≡ place)
BodyHere slot place at (fixed bytes owner) = ⊥

-- among chunks that begin at an offset, a movable one that names this slot has its body at this
-- place
abbrev pub IsBody : ℕ → List Chunk → ℕ → ℕ → Type 0
IsBody at chunks slot place = AnyPlaced (BodyHere slot place) at chunks

-- The slots in use and the movable chunks are paired one to one. A slot contains a place, which is
-- not 0, exactly if a movable chunk that names it has its body there.
abbrev pub Tied : List ℕ → List Chunk → Type 0
Tied image chunks = (slot place : ℕ) → 0 < place → ((IsSlot image slot × (u32_at image slot ≡ place)) ↔ IsBody (area_start image) chunks slot place)

-- the chunk, if it is fixed, is a caller's
abbrev pub IsCallersIfFixed : ℕ → Chunk → Type 0
IsCallersIfFixed at (free size) = Unit {0}
IsCallersIfFixed at (movable bytes lock owner slot) = Unit {0}
IsCallersIfFixed at (fixed bytes owner) = (managers_owner < owner) × (owner < data_owner)

-- one of the tables has its body there
abbrev pub IsTablePlace : List Table → ℕ → Type 0
IsTablePlace [] place = ⊥
IsTablePlace (table ∷ tables) place = (table.place ≡ place) ⊎ IsTablePlace tables place

-- the chunk, if it is fixed, is a caller's, or one of the tables
abbrev pub IsKnownIfFixed : List Table → ℕ → Chunk → Type 0
IsKnownIfFixed tables at (free size) = Unit {0}
IsKnownIfFixed tables at (movable bytes lock owner slot) = Unit {0}
IsKnownIfFixed tables at (fixed bytes owner) = (owner < data_owner) × ((managers_owner < owner) ⊎ IsTablePlace tables (at + 8))

-- the chunk is a movable one of the manager's, and names this slot
abbrev pub ManagersHere : ℕ → ℕ → Chunk → Type 0
ManagersHere slot at (free size) = ⊥
ManagersHere slot at (movable bytes lock owner named) = (named ≡ slot) × (owner ≡ managers_owner)
ManagersHere slot at (fixed bytes owner) = ⊥

-- the directory word
abbrev pub directory_of : List ℕ → ℕ
directory_of image = u32_at image directory_at

-- there is no directory, or a chunk of the manager's is it
abbrev pub HasDirectory : List ℕ → List Chunk → Type 0
HasDirectory image chunks = (directory_of image ≡ 0) ⊎ AnyPlaced (ManagersHere (directory_of image)) (area_start image) chunks

-- the image is an accepted heap, and these are its chunks
pub record IsHeap (image : List ℕ) (chunks : List Chunk) : Type 0 where
  pub tiles : Tiles image chunks
  pub tied : Tied image chunks
  pub fixed_are_known : EveryPlaced (IsKnownIfFixed (further_tables image)) (area_start image) chunks
  pub directory : HasDirectory image chunks

-- the image is an accepted heap
abbrev pub HeapAccepted : List ℕ → Type 0
HeapAccepted image = (chunks : List Chunk) × IsHeap image chunks
