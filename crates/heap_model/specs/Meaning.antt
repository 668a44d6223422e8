-- What an accepted heap means: a map from names to live chunks.
use Rattle.std.specs.Prelude.{◌≡◌, ◌<◌, ◌+◌, ◌↔◌, ℕ, List, Option, Some}
use Rattle.heap_model.specs.Chunk.{Chunk, free, movable, fixed, fixed_lock, managers_owner}
use Rattle.heap_model.specs.Placed.{AnyPlaced}
use Rattle.heap_model.specs.Slots.{area_start}
use Rattle.heap_model.specs.Heap.{IsHeap}

-- What a name stands for: a chunk's bytes, lock count and owner. A fixed chunk has the lock
-- `fixed_lock`.
pub record LiveChunk : Type 0 where
  pub bytes : List ℕ
  pub lock : ℕ
  pub owner : ℕ

-- A map from names to live chunks. It has no slack, no free chunks and no places of movable chunks.
abbrev pub ChunkMap : Type 0
ChunkMap = ℕ → Option LiveChunk

-- The chunk at an offset is a live one of this name. A movable chunk's name is the slot that it
-- names. A fixed chunk's name is its place. A table has no name.
abbrev pub NamedHere : ℕ → LiveChunk → ℕ → Chunk → Type 0
NamedHere name live at (free size) = ⊥
NamedHere name live at (movable bytes lock owner slot) = (slot ≡ name) × (record { bytes = bytes; lock = lock; owner = owner } ≡ live)
NamedHere name live at (fixed bytes owner) = (at + 8 ≡ name) × (record { bytes = bytes; lock = fixed_lock; owner = owner } ≡ live) × (managers_owner < owner)

-- The image is an accepted heap, and the map contains its live chunks, each under its name, and
-- nothing else.
pub record Holds (image : List ℕ) (map : ChunkMap) : Type 0 where
  pub chunks : List Chunk
  pub heap : IsHeap image chunks
  pub each : (name : ℕ) (live : LiveChunk) → ((map name ≡ Some live) ↔ AnyPlaced (NamedHere name live) (area_start image) chunks)
