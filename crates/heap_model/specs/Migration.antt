-- The migration of an image from one layout to the other.
use Rattle.std.specs.Prelude.{◌≡◌, ◌≤◌, ◌<◌, ◌+◌, ◌-◌, ◌/◌, ◌%◌, ◌^◌, ◌==◌, if◌then◌else◌, ℕ, true, false, None, List, [], length, slice_index}
use Rattle.heap_model.specs.Bytes.{u32_at}
use Rattle.heap_model.specs.Chunk.{Chunk, free, movable, fixed, need}
use Rattle.heap_model.specs.Frame.{chained_magic, magic_at, size_at, slot_count_at, frame_size}
use Rattle.heap_model.specs.Placed.{EveryPlaced}
use Rattle.heap_model.specs.Slots.{is_chained, slot_count, table_end, further_tables, IsSlot, area_start}
use Rattle.heap_model.specs.Heap.{HeapAccepted, directory_of}
use Rattle.heap_model.specs.Reading.{h_offset_field, chunks_of, held}

-- ---- what the new image means

-- An image without a chain has become one with a chain of no further table. Its chunks are `by`
-- bytes further on: the size of the word `next` and its padding. The names of fixed chunks are
-- higher by `by` too.
pub record Migrates (old new : List ℕ) (by : ℕ) : Type 0 where
  pub accepted : HeapAccepted new
  pub plain : is_chained old ≡ false
  pub chained : is_chained new ≡ true
  pub shift : area_start new ≡ area_start old + by
  pub len : length new ≡ length old + by
  pub directory : directory_of new ≡ directory_of old
  pub count : slot_count new ≡ slot_count old
  pub further : further_tables new ≡ []
  pub slots : (slot : ℕ) → IsSlot old slot → held new slot ≡ held old slot
  pub fixed : (name : ℕ) → area_start old ≤ name → held new (name + by) ≡ held old name
  pub no_others : (name : ℕ) → (IsSlot old name → ⊥) → name < area_start new → held new name ≡ None

-- ---- byte for byte

-- the bytes of the old image from `start` up to `end` are `by` bytes further on in the new image
abbrev pub StandFurther : List ℕ → List ℕ → ℕ → ℕ → ℕ → Type 0
StandFurther old new by start end = (at : ℕ) → start ≤ at → at < end → slice_index new (at + by) ≡ slice_index old at

-- The second word of a movable chunk that is now `by` bytes further from its slot. Its hOffset is
-- half of the distance to the slot, modulo 2 ^ 24, so it is lower by half of `by`.
abbrev pub lowered_word : ℕ → ℕ → ℕ
lowered_word by word = word - h_offset_field word + (h_offset_field word + 2 ^ 24 - by / 2) % 2 ^ 24

-- the chunk is `by` bytes further on, with all of its bytes except hOffset
abbrev pub StandsFurther : List ℕ → List ℕ → ℕ → ℕ → Chunk → Type 0
StandsFurther old new by at (free size) = StandFurther old new by at (at + size)
StandsFurther old new by at (movable bytes lock owner slot) =
    StandFurther old new by at (at + 4) × (u32_at new (at + by + 4) ≡ lowered_word by (u32_at old (at + 4))) × StandFurther old new by (at + 8) (at + need (length bytes))
StandsFurther old new by at (fixed bytes owner) = StandFurther old new by at (at + need (length bytes))

-- The bytes of an image without a chain, and those of the image with a chain that it becomes. After
-- the slots come the word `next` and its padding, all zeros, and so the chunks are further on. A
-- slot in use contains the new place of its chunk.
pub record MigratesBytes (old new : List ℕ) (by : ℕ) : Type 0 where
  pub shift : area_start new ≡ area_start old + by
  pub len : length new ≡ length old + by
  pub magic : u32_at new magic_at ≡ chained_magic
  pub size : u32_at new size_at ≡ length new
  pub frame : (at : ℕ) → slot_count_at ≤ at → at < frame_size → slice_index new at ≡ slice_index old at
  pub slots : (slot : ℕ) → IsSlot old slot → u32_at new slot ≡ (if u32_at old slot == 0 then 0 else u32_at old slot + by)
  pub zeros : (at : ℕ) → table_end old ≤ at → at < area_start old + by → slice_index new at ≡ 0
  pub chunks : EveryPlaced (StandsFurther old new by) (area_start old) (chunks_of old)
