-- The frame of a heap, which calls leave as it is, and a live chunk that is found by its name.
use Rattle.std.specs.Prelude.{◌≡◌, ◌≢◌, ◌<◌, ◌+◌, ◌++◌, ℕ, List, ◌∷◌, length}
use Rattle.heap_model.specs.Chunk.{Chunk, free, movable, fixed, managers_owner, total}
use Rattle.heap_model.specs.Slots.{slots_of, tables_of, area_start}
use Rattle.heap_model.specs.Heap.{HeapAccepted, directory_of}
use Rattle.heap_model.specs.Meaning.{LiveChunk, NamedHere}
use Rattle.heap_model.specs.Reading.{chunks_of}

-- The new image is an accepted heap. It is as long as the old one. It has the same tables, so the
-- same slots, and the same directory word.
pub record SameFrame (old new : List ℕ) : Type 0 where
  pub accepted : HeapAccepted new
  pub len : length new ≡ length old
  pub tables : tables_of new ≡ tables_of old
  pub slots : slots_of new ≡ slots_of old
  pub directory : directory_of new ≡ directory_of old

-- the name stands for the chunk at the offset `at`, which is between the chunks `before` and
-- `after`
pub record Finds (image : List ℕ) (name : ℕ) (live : LiveChunk) (chunk : Chunk) (at : ℕ) : Type 0 where
  pub before : List Chunk
  pub after : List Chunk
  pub chunks : chunks_of image ≡ before ++ chunk ∷ after
  pub there : at ≡ area_start image + total before
  pub named : NamedHere name live at chunk

-- the chunk is not a fixed one of this name; a table has no name
abbrev pub NotFixedAs : ℕ → ℕ → Chunk → Type 0
NotFixedAs name at (free size) = Unit {0}
NotFixedAs name at (movable bytes lock owner slot) = Unit {0}
NotFixedAs name at (fixed bytes owner) = managers_owner < owner → at + 8 ≢ name
