-- Chunks: their values, how an image spells them, and runs of chunks without a gap.
use Rattle.std.specs.Prelude.{◌≡◌, ◌≤◌, ◌<◌, ◌+◌, ◌-◌, ◌*◌, ◌/◌, ◌%◌, ◌^◌, ◌⊎◌, ◌==◌, ◌&&◌, ◌++◌, if◌then◌else◌, ℕ, Bool, true, false, List, [], ◌∷◌, length, take, replicate, slice_range}
use Rattle.heap_model.specs.Bytes.{u32_at}

-- A chunk is one of these:
-- - free, with a size
-- - movable, with bytes, a lock count below 15, an owner and the offset of the slot that it names
-- - fixed, with bytes and an owner
pub data Chunk : Type 0 where
  free : ℕ → Chunk
  movable : List ℕ → ℕ → ℕ → ℕ → Chunk
  fixed : List ℕ → ℕ → Chunk

-- the lock of a fixed chunk
abbrev pub fixed_lock : ℕ
fixed_lock = 15

-- the most locks that a movable chunk counts
abbrev pub most_locks : ℕ
most_locks = 14

-- the owner of the manager's own chunks: the directory, the headers of databases and, fixed, the
-- tables
abbrev pub managers_owner : ℕ
managers_owner = 0

-- The owner of the chunks that databases name: info blocks, and the data of records and resources.
-- The owners between the two are callers'.
abbrev pub data_owner : ℕ
data_owner = 15

-- how many bytes a chunk takes: 8 for its header, and `count` rounded up to a multiple of 8
abbrev pub need : ℕ → ℕ
need count = 8 + 8 * ((count + 7) / 8)

-- how many bytes a chunk takes, its header included
abbrev pub size_of : Chunk → ℕ
size_of (free size) = size
size_of (movable bytes lock owner slot) = need (length bytes)
size_of (fixed bytes owner) = need (length bytes)

-- The offset of the slot that a chunk names by its hOffset. The hOffset is half the distance from
-- the chunk to the slot, as a two's complement of 24 bits. A distance to before the image's start
-- gives 2 ^ 24 or more here, where no image has a slot.
abbrev pub slot_named : ℕ → ℕ → ℕ
slot_named at h_offset = (at + 2 * h_offset) % 2 ^ 25

-- how many bytes the word `next` of a table takes
abbrev pub next_size : ℕ
next_size = 4

-- A chunk with this lock and this owner is a table: a fixed chunk of the manager's. Its body is a
-- word `next` and slots.
abbrev pub is_table_by : ℕ → ℕ → Bool
is_table_by lock owner = (lock == fixed_lock) && (owner == managers_owner)

-- The bytes of a chunk's value, given the bytes of its body. They are the same, except for a table:
-- only its word `next` is kept, and its slots count as zeros. The contents of slots are no part of
-- a chunk.
unfoldable pub seen : ℕ → ℕ → List ℕ → List ℕ
seen lock owner body = if is_table_by lock owner then take next_size body ++ replicate (length body - next_size) 0 else body

-- The header of a free chunk of this size is at this offset. The highest bit of its first word is
-- set, and the low 24 bits are the size. Its other bits and bytes may be any.
pub record IsFree (image : List ℕ) (at size : ℕ) : Type 0 where
  pub free_bit : 2 ^ 31 ≤ u32_at image at
  pub size_field : u32_at image at % 2 ^ 24 ≡ size
  pub header_fits : 8 ≤ size
  pub whole : size % 8 ≡ 0
  pub inside : at + size ≤ length image

-- The header and the body of a live chunk are at this offset. The first word is sizeAdj, the number
-- of slack bytes, above the size in 24 bits. The second is the lock above the owner above hOffset
-- in 24 bits. Slack bytes may be any.
pub record IsLive (image : List ℕ) (at : ℕ) (bytes : List ℕ) (lock owner h_offset : ℕ) : Type 0 where
  pub first_word : u32_at image at ≡ (need (length bytes) - 8 - length bytes) * 2 ^ 24 + need (length bytes)
  pub size_fits : need (length bytes) < 2 ^ 24
  pub second_word : u32_at image (at + 4) ≡ lock * 2 ^ 28 + owner * 2 ^ 24 + h_offset
  pub lock_fits : lock < 16
  pub owner_fits : owner < 16
  pub h_offset_fits : h_offset < 2 ^ 24
  pub body : seen lock owner (slice_range image (at + 8) (at + 8 + length bytes)) ≡ bytes
  pub inside : at + need (length bytes) ≤ length image

-- The chunk is spelled in the image at this offset. A fixed chunk's hOffset is 0; a movable chunk
-- that is locked has an owner other than 0.
abbrev pub Spelled : List ℕ → ℕ → Chunk → Type 0
Spelled image at (free size) = IsFree image at size
Spelled image at (movable bytes lock owner slot) =
    (h_offset : ℕ) × IsLive image at bytes lock owner h_offset × (lock < fixed_lock) × ((lock ≡ 0) ⊎ (0 < owner)) × (slot ≡ slot_named at h_offset)
Spelled image at (fixed bytes owner) = IsLive image at bytes fixed_lock owner 0

-- some chunk is spelled in the image at this offset
pub record HasChunk (image : List ℕ) (at : ℕ) : Type 0 where
  pub chunk : Chunk
  pub spelled : Spelled image at chunk

-- the chunks are spelled one after the other, from one offset up to another
abbrev pub SpelledAll : List ℕ → ℕ → List Chunk → ℕ → Type 0
SpelledAll image at [] end = at ≡ end
SpelledAll image at (chunk ∷ chunks) end = Spelled image at chunk × SpelledAll image (at + size_of chunk) chunks end

-- how many bytes chunks take together
abbrev pub total : List Chunk → ℕ
total [] = 0
total (chunk ∷ chunks) = size_of chunk + total chunks

-- how much of a chunk's size is free: all of a free chunk's, nothing of a live one's
abbrev pub free_size : Chunk → ℕ
free_size (free size) = size
free_size (movable bytes lock owner slot) = 0
free_size (fixed bytes owner) = 0

-- the chunk is a movable one, locked or not
abbrev pub is_movable : Chunk → Bool
is_movable (free size) = false
is_movable (movable bytes lock owner slot) = true
is_movable (fixed bytes owner) = false

-- the chunk is a fixed one
abbrev pub is_fixed : Chunk → Bool
is_fixed (free size) = false
is_fixed (movable bytes lock owner slot) = false
is_fixed (fixed bytes owner) = true

-- the chunk has this owner
abbrev pub is_owned_by : ℕ → Chunk → Bool
is_owned_by owner (free size) = false
is_owned_by owner (movable bytes lock own slot) = own == owner
is_owned_by owner (fixed bytes own) = own == owner

-- how many bytes the body of a live chunk has, by its first word
abbrev pub body_length : ℕ → ℕ
body_length word = word % 2 ^ 24 - 8 - word / 2 ^ 24
