-- The chunks and the map of an image, and whether it is accepted, as functions of the image. They
-- are defined for every list of bytes, but mean something only if the image is accepted. Contracts
-- are written with these functions. The relations of `Chunk`, `Heap` and `Meaning` specify them,
-- and `laws_heap` proves that the two agree.
use Rattle.std.specs.Prelude.{◌+◌, ◌-◌, ◌*◌, ◌/◌, ◌%◌, ◌^◌, ◌==◌, ◌&&◌, ◌||◌, ◌++◌, not, nat_le, nat_lt, if◌then◌else◌, ℕ, zero, suc, Bool, true, false, List, [], ◌∷◌, length, slice_range, Option, Some, None}
use Rattle.std.specs.List.{list_all}
use Rattle.heap_model.specs.Bytes.{u16_at, u32_at}
use Rattle.heap_model.specs.Chunk.{Chunk, free, movable, fixed, fixed_lock, need, size_of, total, slot_named, managers_owner, data_owner, next_size, seen}
use Rattle.heap_model.specs.Placed.{every_placed, any_placed}
use Rattle.heap_model.specs.Slots.{Table, slot_size, slot_count, head_end, area_start, first_next, further_tables, slots_of, is_slot}
use Rattle.heap_model.specs.Frame.{magic, chained_magic, magic_at, size_at, reserved_at, least_size, most_size}
use Rattle.heap_model.specs.Heap.{directory_of}
use Rattle.heap_model.specs.Meaning.{ChunkMap}

-- ---- chunks

-- The first word's size, and the bits above it. In a live chunk these are sizeAdj, and the bits
-- above sizeAdj are zero.
abbrev pub size_field : ℕ → ℕ
size_field word = word % 2 ^ 24

abbrev pub above_size : ℕ → ℕ
above_size word = word / 2 ^ 24

-- the second word's fields
abbrev pub lock_field : ℕ → ℕ
lock_field word = word / 2 ^ 28

abbrev pub owner_field : ℕ → ℕ
owner_field word = word / 2 ^ 24 % 16

abbrev pub h_offset_field : ℕ → ℕ
h_offset_field word = word % 2 ^ 24

-- The second word of a live chunk is in shape: its lock is at most 15, a fixed chunk has no
-- hOffset, and a chunk with a lock from 1 to 14 has an owner.
abbrev pub has_live_word : ℕ → Bool
has_live_word word =
    nat_le (lock_field word) fixed_lock
    && (not (lock_field word == fixed_lock) || (h_offset_field word == 0))
    && ((lock_field word == 0) || (lock_field word == fixed_lock) || not (owner_field word == 0))

-- a chunk is in shape, given the count of bytes from its start to the end, and its two words
abbrev pub is_in_shape : ℕ → ℕ → ℕ → Bool
is_in_shape left first second =
    nat_le 8 (size_field first) && (size_field first % 8 == 0) && nat_le (size_field first) left
    && (nat_le (2 ^ 31) first || (nat_le (above_size first) 7 && nat_le (above_size first) (size_field first - 8) && has_live_word second))

-- the chunk at an offset, if it is in shape
abbrev pub chunk_by_words : List ℕ → ℕ → ℕ → ℕ → Chunk
chunk_by_words image at first second =
    let bytes : List ℕ = slice_range image (at + 8) (at + 8 + (size_field first - 8 - above_size first)) in
    if nat_le (2 ^ 31) first then free (size_field first)
    else if lock_field second == fixed_lock then fixed (seen fixed_lock (owner_field second) bytes) (owner_field second)
    else movable bytes (lock_field second) (owner_field second) (slot_named at (h_offset_field second))

-- the chunk that is spelled at an offset, if there is one
unfoldable pub chunk_at : List ℕ → ℕ → Option Chunk
chunk_at image at =
    if is_in_shape (length image - at) (u32_at image at) (u32_at image (at + 4)) then Some (chunk_by_words image at (u32_at image at) (u32_at image (at + 4))) else None

-- a first chunk, if there is one, and then the others
abbrev pub first_then : (ℕ → List Chunk) → ℕ → Option Chunk → List Chunk
first_then others at None = []
first_then others at (Some chunk) = chunk ∷ others (at + size_of chunk)

-- the chunks from an offset on, at most `count` of them
abbrev pub chunks_within : ℕ → List ℕ → ℕ → List Chunk
chunks_within zero image at = []
chunks_within (suc count) image at = first_then (chunks_within count image) at (chunk_at image at)

-- the chunks from an offset on, up to the end or to the first that is out of shape
unfoldable pub chunks_from : List ℕ → ℕ → List Chunk
chunks_from image at = chunks_within (length image) image at

-- the chunks of an image
unfoldable pub chunks_of : List ℕ → List Chunk
chunks_of image = chunks_from image (area_start image)

-- ---- the map

-- whether a fixed chunk at an offset, with this owner, has this name; a table has no name
abbrev pub is_fixed_name : ℕ → ℕ → ℕ → Bool
is_fixed_name at owner name = ((at + 8) == name) && nat_lt managers_owner owner

-- what a name stands for, among chunks of which the first begins at an offset
abbrev pub live_under : ℕ → List Chunk → ChunkMap
live_under at [] name = None
live_under at (free size ∷ chunks) name = live_under (at + size) chunks name
live_under at (movable bytes lock owner slot ∷ chunks) name =
    if slot == name then Some (record { bytes = bytes; lock = lock; owner = owner }) else live_under (at + need (length bytes)) chunks name
live_under at (fixed bytes owner ∷ chunks) name =
    if is_fixed_name at owner name then Some (record { bytes = bytes; lock = fixed_lock; owner = owner }) else live_under (at + need (length bytes)) chunks name

-- what a name stands for in an image
unfoldable pub held : List ℕ → ChunkMap
held image name = live_under (area_start image) (chunks_of image) name

-- ---- whether a heap is accepted

-- the tests of the bytes before the chunks
abbrev pub head_tests : List ℕ → List Bool
head_tests image =
    ((u32_at image magic_at == magic) || (u32_at image magic_at == chained_magic))
    ∷ (u32_at image size_at == length image)
    ∷ nat_le least_size (length image)
    ∷ nat_le (length image) most_size
    ∷ (length image % 8 == 0)
    ∷ nat_lt 0 (slot_count image)
    ∷ nat_le (area_start image + 8) (length image)
    ∷ (u16_at image reserved_at == 0)
    ∷ ((head_end image == area_start image) || (u32_at image (head_end image) == 0))
    ∷ []

-- the chunks reach exactly to the end
abbrev pub is_tiled : List ℕ → Bool
is_tiled image = area_start image + total (chunks_of image) == length image

-- the chunk is a movable one that names this slot and has its body at this place
abbrev pub is_body_here : ℕ → ℕ → ℕ → Chunk → Bool
is_body_here slot place at (free size) = false
is_body_here slot place at (movable bytes lock owner named) = (named == slot) && (at + 8 == place)
is_body_here slot place at (fixed bytes owner) = false

-- if a slot is in use, it contains the place of a movable chunk that names it
abbrev pub holds_body : List ℕ → ℕ → Bool
holds_body image slot = (u32_at image slot == 0) || any_placed (is_body_here slot (u32_at image slot)) (area_start image) (chunks_of image)

-- if the chunk is movable, it names a slot that contains its place
abbrev pub names_its_slot : List ℕ → ℕ → Chunk → Bool
names_its_slot image at (free size) = true
names_its_slot image at (movable bytes lock owner slot) = is_slot image slot && (u32_at image slot == at + 8)
names_its_slot image at (fixed bytes owner) = true

-- the chunk at an offset is this table
abbrev pub is_table_here : Table → ℕ → Chunk → Bool
is_table_here table at (free size) = false
is_table_here table at (movable bytes lock owner slot) = false
is_table_here table at (fixed bytes owner) = (owner == managers_owner) && (at + 8 == table.place) && (length bytes == next_size + slot_size * table.count) && nat_lt 0 table.count

-- the tables are those of the chain that begins with the word `next`
abbrev pub is_chain : List ℕ → List Chunk → ℕ → List Table → Bool
is_chain image chunks next [] = next == 0
is_chain image chunks next (table ∷ tables) = (next == table.place) && any_placed (is_table_here table) (area_start image) chunks && is_chain image chunks (u32_at image table.place) tables

-- one of the tables has its body at this place
abbrev pub is_table_place : List Table → ℕ → Bool
is_table_place [] place = false
is_table_place (table ∷ tables) place = (table.place == place) || is_table_place tables place

-- if the chunk is fixed, it is a caller's or one of the tables
abbrev pub is_known_if_fixed : List Table → ℕ → Chunk → Bool
is_known_if_fixed tables at (free size) = true
is_known_if_fixed tables at (movable bytes lock owner slot) = true
is_known_if_fixed tables at (fixed bytes owner) = nat_lt owner data_owner && (nat_lt managers_owner owner || is_table_place tables (at + 8))

-- the chunk is movable, belongs to the manager, and names this slot
abbrev pub is_managers_here : ℕ → ℕ → Chunk → Bool
is_managers_here slot at (free size) = false
is_managers_here slot at (movable bytes lock owner named) = (named == slot) && (owner == managers_owner)
is_managers_here slot at (fixed bytes owner) = false

abbrev pub has_directory : List ℕ → Bool
has_directory image = (directory_of image == 0) || any_placed (is_managers_here (directory_of image)) (area_start image) (chunks_of image)

-- the tests of the chunks and slots
abbrev pub area_tests : List ℕ → List Bool
area_tests image =
    is_tiled image
    ∷ is_chain image (chunks_of image) (first_next image) (further_tables image)
    ∷ list_all (holds_body image) (slots_of image)
    ∷ every_placed (names_its_slot image) (area_start image) (chunks_of image)
    ∷ every_placed (is_known_if_fixed (further_tables image)) (area_start image) (chunks_of image)
    ∷ has_directory image
    ∷ []

-- the image is an accepted heap
unfoldable pub is_accepted : List ℕ → Bool
is_accepted image = list_all (λ test. test) (head_tests image ++ area_tests image)
