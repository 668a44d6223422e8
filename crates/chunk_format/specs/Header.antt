-- The header of a chunk and its two words.
use Rattle.std.specs.Prelude.{◌≡◌, ◌≤◌, ◌<◌, ◌+◌, ◌-◌, ◌*◌, ◌/◌, ◌%◌, ◌^◌, ◌++◌, ◌⊎◌, ◌==◌, if◌then◌else◌, ℕ, List, [], ◌∷◌, length, slice_range}
use Rattle.heap_model.specs.Bytes.{u32_at, u32_bytes, overwritten}
use Rattle.heap_model.specs.Chunk.{Chunk, free, movable, fixed, fixed_lock, data_owner, need, size_of, slot_named, managers_owner, seen, IsLive, Spelled}
use Rattle.heap_model.specs.Reading.{lock_field, owner_field, h_offset_field}
use Rattle.heap_model.specs.declared.names.Place.{Place}
use Rattle.chunk_format.specs.declared.header.Header.{Header}
use Rattle.chunk_format.specs.declared.header.Header.TheVariants as headers

-- the header of a chunk, without the chunk's bytes
abbrev pub header_of : Chunk → Header
header_of (free size) = headers.Free size
header_of (movable bytes lock owner slot) = headers.Movable (length bytes) lock owner slot
header_of (fixed bytes owner) = headers.Fixed (length bytes) owner

-- the size of the chunk that has this header
abbrev pub size_by : Header → ℕ
size_by (headers.Free size) = size
size_by (headers.Movable length lock owner slot) = need length
size_by (headers.Fixed length owner) = need length

-- the size of a free chunk with this header, 0 for any other chunk
abbrev pub free_by : Header → ℕ
free_by (headers.Free size) = size
free_by (headers.Movable length lock owner slot) = 0
free_by (headers.Fixed length owner) = 0

-- the header of a live chunk of `length` bytes at an offset, from its second word
abbrev pub live_header_by : ℕ → ℕ → ℕ → Header
live_header_by at length word =
    if lock_field word == fixed_lock then headers.Fixed length (owner_field word)
    else headers.Movable length (lock_field word) (owner_field word) (slot_named at (h_offset_field word))

-- the chunk that has this header, with the bytes after the header, as its value has them
abbrev pub chunk_with : List ℕ → ℕ → Header → Chunk
chunk_with image at (headers.Free size) = free size
chunk_with image at (headers.Movable length lock owner slot) = movable (slice_range image (at + 8) (at + 8 + length)) lock owner slot
chunk_with image at (headers.Fixed length owner) = fixed (seen fixed_lock owner (slice_range image (at + 8) (at + 8 + length))) owner

-- a chunk with this header is spelled at this offset
pub record HasHeader (image : List ℕ) (at : ℕ) (header : Header) : Type 0 where
  pub chunk : Chunk
  pub spelled : Spelled image at chunk
  pub header_is : header ≡ header_of chunk

-- a live chunk is spelled at this offset
pub record HasLive (image : List ℕ) (at : ℕ) : Type 0 where
  pub bytes : List ℕ
  pub lock : ℕ
  pub owner : ℕ
  pub h_offset : ℕ
  pub is : IsLive image at bytes lock owner h_offset

-- the places and headers of chunks, the first of which begins at this offset
abbrev pub headers_of : ℕ → List Chunk → List (Place × Header)
headers_of at [] = []
headers_of at (chunk ∷ chunks) = (record { 0 = at + 8 }, header_of chunk) ∷ headers_of (at + size_of chunk) chunks

-- the header can be written at this offset: its numbers fit their fields, and the slot is at an
-- even distance
abbrev pub IsWritableHeader : ℕ → Header → Type 0
IsWritableHeader at (headers.Free size) = (8 ≤ size) × (size % 8 ≡ 0) × (size < 2 ^ 24)
IsWritableHeader at (headers.Movable length lock owner slot) =
    (need length < 2 ^ 24) × (lock < fixed_lock) × (owner ≤ data_owner) × ((lock ≡ 0) ⊎ (0 < owner)) × (slot < 2 ^ 24) × (slot % 2 ≡ at % 2)
IsWritableHeader at (headers.Fixed length owner) = (need length < 2 ^ 24) × (owner ≤ data_owner)

-- a lock count and an owner that one movable chunk may have: a locked chunk has an owner
abbrev pub MayStand : ℕ → ℕ → Type 0
MayStand lock owner = (lock ≡ 0) ⊎ (0 < owner)

-- half the distance from an offset to a slot, as a two's complement of 24 bits
abbrev pub h_offset_to : ℕ → ℕ → ℕ
h_offset_to at slot = (slot + 2 ^ 25 - at) / 2 % 2 ^ 24

-- a second word with another lock field
abbrev pub with_lock_field : ℕ → ℕ → ℕ
with_lock_field word lock = lock * 2 ^ 28 + word % 2 ^ 28

-- a second word with another owner field
abbrev pub with_owner_field : ℕ → ℕ → ℕ
with_owner_field word owner = word / 2 ^ 28 * 2 ^ 28 + owner * 2 ^ 24 + word % 2 ^ 24

-- a second word with another hOffset
abbrev pub with_h_offset : ℕ → ℕ → ℕ
with_h_offset word h_offset = word / 2 ^ 24 * 2 ^ 24 + h_offset

-- an image with another lock field, another owner field, or the hOffset of another slot, in the
-- header at an offset
abbrev pub with_lock_at : List ℕ → ℕ → ℕ → List ℕ
with_lock_at image at lock = overwritten image (at + 4) (u32_bytes (with_lock_field (u32_at image (at + 4)) lock))

abbrev pub with_owner_at : List ℕ → ℕ → ℕ → List ℕ
with_owner_at image at owner = overwritten image (at + 4) (u32_bytes (with_owner_field (u32_at image (at + 4)) owner))

abbrev pub with_slot_at : List ℕ → ℕ → ℕ → List ℕ
with_slot_at image at slot = overwritten image (at + 4) (u32_bytes (with_h_offset (u32_at image (at + 4)) (h_offset_to at slot)))

-- The movable chunk that was spelled at this offset is spelled there with another lock count, and
-- is otherwise unchanged.
abbrev pub Relocks : List ℕ → List ℕ → ℕ → ℕ → Type 0
Relocks old new at lock = (bytes : List ℕ) (was owner slot : ℕ) → MayStand lock owner → Spelled old at (movable bytes was owner slot) → Spelled new at (movable bytes lock owner slot)

-- The live chunk that was spelled at this offset is spelled there with another owner, and is
-- otherwise unchanged. No fixed chunk of the manager's becomes a caller's, nor the other way round.
pub record Reowns (old new : List ℕ) (at owner : ℕ) : Type 0 where
  pub movable_too : (bytes : List ℕ) (lock was slot : ℕ) → MayStand lock owner → Spelled old at (movable bytes lock was slot) → Spelled new at (movable bytes lock owner slot)
  pub fixed_too : (bytes : List ℕ) (was : ℕ) → managers_owner < was → managers_owner < owner → Spelled old at (fixed bytes was) → Spelled new at (fixed bytes owner)

-- The movable chunk that was spelled at this offset is spelled there with another slot, and is
-- otherwise unchanged.
abbrev pub Reslots : List ℕ → List ℕ → ℕ → ℕ → Type 0
Reslots old new at slot = (bytes : List ℕ) (lock owner was : ℕ) → Spelled old at (movable bytes lock owner was) → Spelled new at (movable bytes lock owner slot)

-- the two words of a live chunk of `length` bytes: sizeAdj above the size, and the lock above the
-- owner above hOffset
abbrev pub live_words : ℕ → ℕ → ℕ → ℕ → List ℕ
live_words length lock owner h_offset = u32_bytes ((need length - 8 - length) * 2 ^ 24 + need length) ++ u32_bytes (lock * 2 ^ 28 + owner * 2 ^ 24 + h_offset)

-- The bytes that spell a header at an offset. For a free chunk they are only the first word, in
-- which all bits but the free bit and the size are zero.
abbrev pub header_words : ℕ → Header → List ℕ
header_words at (headers.Free size) = u32_bytes (2 ^ 31 + size)
header_words at (headers.Movable length lock owner slot) = live_words length lock owner (h_offset_to at slot)
header_words at (headers.Fixed length owner) = live_words length fixed_lock owner 0
