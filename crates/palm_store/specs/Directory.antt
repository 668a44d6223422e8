-- The directory after a database is made or deleted: a slot is listed last, with a chunk for its
-- header, or is listed no longer.
use Rattle.std.specs.Prelude.{◌≡◌, ◌≢◌, ◌<◌, ◌+◌, ◌*◌, ◌++◌, ◌⊎◌, ℕ, List, length, take, drop, None, Some}
use Rattle.heap_model.specs.Bytes.{u32_bytes}
use Rattle.heap_model.specs.Chunk.{need, managers_owner}
use Rattle.heap_model.specs.Slots.{tables_of, slot_size}
use Rattle.heap_model.specs.Heap.{HeapAccepted, directory_of}
use Rattle.heap_model.specs.Reading.{held}
use Rattle.heap_model.specs.Space.{Still, ShortFor}
use Rattle.heap_model.specs.Store.{directory_bytes}
use Rattle.mem_manager.specs.Lookup.{HasNoRoomFor}

-- The new image is an accepted heap of the same length with the same tables. Its directory lists
-- this slot after those of the old one. The directory is the same chunk, or is made if there was
-- none. Every other name stands for the same as before. No chunk that stays has moved.
pub record ListsLast (old new : List ℕ) (slot : ℕ) : Type 0 where
  pub accepted : HeapAccepted new
  pub len : length new ≡ length old
  pub tables : tables_of new ≡ tables_of old
  pub still : Still old new
  pub some : 0 < directory_of new
  pub directory : (directory_of new ≡ directory_of old) ⊎ ((directory_of old ≡ 0) × (held old (directory_of new) ≡ None))
  pub last : directory_bytes new ≡ directory_bytes old ++ u32_bytes slot
  pub others : (name : ℕ) → name ≢ directory_of new → held new name ≡ held old name

-- The same, if the slot stood for nothing, and now is the name of a chunk of the manager's with
-- these bytes.
pub record ListsNew (old new : List ℕ) (slot : ℕ) (bytes : List ℕ) : Type 0 where
  pub accepted : HeapAccepted new
  pub len : length new ≡ length old
  pub tables : tables_of new ≡ tables_of old
  pub still : Still old new
  pub some : 0 < directory_of new
  pub directory : (directory_of new ≡ directory_of old) ⊎ ((directory_of old ≡ 0) × (held old (directory_of new) ≡ None))
  pub last : directory_bytes new ≡ directory_bytes old ++ u32_bytes slot
  pub fresh : held old slot ≡ None
  pub apart : slot ≢ directory_of new
  pub chunk : held new slot ≡ Some (record { bytes = bytes; lock = 0; owner = managers_owner })
  pub others : (name : ℕ) → name ≢ slot → name ≢ directory_of new → held new name ≡ held old name

-- There is no directory and no room for one with one slot, or there is one and it can't grow by a
-- slot.
abbrev pub HasNoRoomToList : List ℕ → Type 0
HasNoRoomToList image =
    ((directory_of image ≡ 0) × HasNoRoomFor image slot_size)
    ⊎ ((0 < directory_of image) × ShortFor image (directory_of image) (need (length (directory_bytes image) + slot_size)))

-- The new image is an accepted heap of the same length with the same tables, and the directory is
-- the same chunk. It has the bytes of the old one without the four of the slot at this index. Every
-- other name stands for the same as before. No chunk that stays has moved.
pub record Unlists (old new : List ℕ) (index : ℕ) : Type 0 where
  pub accepted : HeapAccepted new
  pub len : length new ≡ length old
  pub tables : tables_of new ≡ tables_of old
  pub directory : directory_of new ≡ directory_of old
  pub still : Still old new
  pub others : (name : ℕ) → name ≢ directory_of old → held new name ≡ held old name
  pub left : directory_bytes new ≡ take (slot_size * index) (directory_bytes old) ++ drop (slot_size * index + slot_size) (directory_bytes old)
