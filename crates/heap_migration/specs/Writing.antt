-- The bytes that each step of a migration writes. Between the steps the new bytes are no image yet.
use Rattle.std.specs.Prelude.{◌≡◌, ◌≤◌, ◌<◌, ◌+◌, ◌%◌, ◌==◌, if◌then◌else◌, ℕ, Bool, true, false, List, length, slice_index}
use Rattle.heap_model.specs.Bytes.{u32_at}
use Rattle.heap_model.specs.Chunk.{Chunk, Spelled, SpelledAll, size_of}
use Rattle.heap_model.specs.Frame.{chained_magic, magic_at, size_at, slot_count_at, frame_size}
use Rattle.heap_model.specs.Placed.{EveryPlaced}
use Rattle.heap_model.specs.Slots.{slot_size, table_end, IsSlot, area_start}
use Rattle.heap_model.specs.Reading.{chunks_of}
use Rattle.heap_model.specs.Migration.{StandFurther, StandsFurther}
use Rattle.chunk_format.specs.declared.header.Header.{Header}
use Rattle.chunk_format.specs.declared.header.Header.TheVariants as headers

-- two lists have the same bytes from one offset up to another
abbrev pub AreSame : List ℕ → List ℕ → ℕ → ℕ → Type 0
AreSame old new start end = (at : ℕ) → start ≤ at → at < end → slice_index new at ≡ slice_index old at

-- the new word of a slot: an empty slot stays empty, and a place rises
abbrev pub raised_place : ℕ → ℕ → ℕ
raised_place by place = if place == 0 then 0 else place + by

-- The frame and the slots are written. Zeros follow up to the chunks.
pub record HasHead (old new : List ℕ) (by : ℕ) : Type 0 where
  pub len : length new ≡ length old + by
  pub magic : u32_at new magic_at ≡ chained_magic
  pub size : u32_at new size_at ≡ length new
  pub frame : AreSame old new slot_count_at frame_size
  pub slots : (slot : ℕ) → IsSlot old slot → u32_at new slot ≡ raised_place by (u32_at old slot)
  pub zeros : (at : ℕ) → table_end old ≤ at → at < area_start old + by → slice_index new at ≡ 0

-- The frame is written, and nothing else.
pub record WroteFrame (old was new : List ℕ) : Type 0 where
  pub len : length new ≡ length was
  pub magic : u32_at new magic_at ≡ chained_magic
  pub size : u32_at new size_at ≡ length new
  pub frame : AreSame old new slot_count_at frame_size
  pub rest : AreSame was new frame_size (length was)

-- The slots up to an offset are written, and nothing else.
pub record RaisedUpTo (old was new : List ℕ) (by end : ℕ) : Type 0 where
  pub len : length new ≡ length was
  pub low : frame_size ≤ end
  pub high : end ≤ table_end old
  pub whole : end % slot_size ≡ 0
  pub front : AreSame was new 0 frame_size
  pub back : AreSame was new end (length was)
  pub slots : (slot : ℕ) → frame_size ≤ slot → slot % slot_size ≡ 0 → slot < end → u32_at new slot ≡ raised_place by (u32_at old slot)

abbrev pub RaisedSlots : List ℕ → List ℕ → List ℕ → ℕ → Type 0
RaisedSlots old was new by = RaisedUpTo old was new by (table_end old)

-- whether a header is that of a movable chunk
abbrev pub is_movable_header : Header → Bool
is_movable_header (headers.Free size) = false
is_movable_header (headers.Movable length lock owner slot) = true
is_movable_header (headers.Fixed length owner) = false

-- The chunk at an offset of the old image is further on in the new one. Only the bytes of this
-- chunk were written.
pub record WroteChunk (old was new : List ℕ) (by at size : ℕ) : Type 0 where
  pub chunk : Chunk
  pub spelled : Spelled old at chunk
  pub size_is : size ≡ size_of chunk
  pub further : StandsFurther old new by at chunk
  pub len : length new ≡ length was
  pub front : AreSame was new 0 (at + by)
  pub back : AreSame was new (at + by + size) (length was)

-- The chunks up to an offset of the old image are further on in the new one. The chunks after it
-- are copied, and the bytes before the chunks are unchanged.
pub record WroteUpTo (old was new : List ℕ) (by at : ℕ) : Type 0 where
  pub chunks : List Chunk
  pub spelled : SpelledAll old (area_start old) chunks at
  pub inside : at ≤ length old
  pub further : EveryPlaced (StandsFurther old new by) (area_start old) chunks
  pub copied : StandFurther old new by at (length old)
  pub len : length new ≡ length was
  pub front : AreSame was new 0 (area_start old + by)

-- All chunks are further on in the new image, and the bytes before them are unchanged.
pub record WroteChunks (old was new : List ℕ) (by : ℕ) : Type 0 where
  pub further : EveryPlaced (StandsFurther old new by) (area_start old) (chunks_of old)
  pub len : length new ≡ length was
  pub front : AreSame was new 0 (area_start old + by)
