-- Blank images.
use Rattle.std.specs.Prelude.{false, ◌≡◌, ◌≤◌, ◌<◌, ◌+◌, ◌-◌, ◌%◌, ℕ, List, [], ◌∷◌, length, slice_index, None}
use Rattle.heap_model.specs.Chunk.{free}
use Rattle.heap_model.specs.Bytes.{u32_at, u16_bytes, u32_bytes, overwritten}
use Rattle.heap_model.specs.Frame.{magic, magic_at, size_at, slot_count_at, least_size, most_size}
use Rattle.heap_model.specs.Slots.{is_chained, slot_count, start_behind}
use Rattle.heap_model.specs.Heap.{IsHeap}
use Rattle.heap_model.specs.Reading.{held}
use Rattle.heap_model.specs.Layout.{IsPlain}
use Rattle.heap_model.specs.Store.{Store}

-- an image may have this size
pub record IsRegionSize (size : ℕ) : Type 0 where
  pub least : least_size ≤ size
  pub most : size ≤ most_size
  pub whole : size % 8 ≡ 0

-- there is a slot, and the slots leave room for a chunk
pub record LeavesRoom (size slots : ℕ) : Type 0 where
  pub some_slot : 0 < slots
  pub a_chunk_fits : start_behind slots + 8 ≤ size

-- An accepted heap of profile PHI1, of this size and with this number of slots. Its only chunk is
-- free: the first word has only the free bit and the size set, and zeros follow that word.
pub record IsBlank (size slots : ℕ) (image : List ℕ) : Type 0 where
  pub size_is : length image ≡ size
  pub unchained : is_chained image ≡ false
  pub slots_are : slot_count image ≡ slots
  pub heap : IsHeap image (free (size - start_behind slots) ∷ [])
  pub nothing : (name : ℕ) → held image name ≡ None
  pub plain : IsPlain (u32_at image (start_behind slots))
  pub zeros : (k : ℕ) → start_behind slots + 4 ≤ k → k < size → slice_index image k ≡ 0

-- a store without chunks that callers may name, and without databases
pub record IsEmpty (store : Store) : Type 0 where
  pub map : (name : ℕ) → store.map name ≡ None
  pub databases : store.databases ≡ []

-- bytes with a frame written over them: the magic, the size and the slot count
abbrev pub framed : List ℕ → ℕ → ℕ → List ℕ
framed old size slots =
    overwritten (overwritten (overwritten old magic_at (u32_bytes magic)) size_at (u32_bytes size)) slot_count_at (u16_bytes slots)

-- a valid size and a valid slot count, and the offset where the chunks begin
pub record IsPlanned (size slots start : ℕ) : Type 0 where
  pub start_is : start ≡ start_behind slots
  pub size_right : IsRegionSize size
  pub room : LeavesRoom size slots
  pub slots_fit : slots < 65536
