-- Another length for a chunk, wherever its bytes are found. The relations go by names, since the
-- chunk and others of one stretch may have moved.
use Rattle.std.specs.Prelude.{◌≡◌, ◌≤◌, ◌+◌, ◌++◌, ℕ, List, ◌∷◌, length, Some}
use Rattle.heap_model.specs.Chunk.{Chunk, movable, need, total}
use Rattle.heap_model.specs.Slots.{area_start}
use Rattle.heap_model.specs.Meaning.{LiveChunk}
use Rattle.heap_model.specs.Reading.{held}
use Rattle.heap_model.specs.Maps.{sized}
use Rattle.heap_model.specs.Space.{room_of}
use Rattle.heap_model.specs.Leaving.{Leaves}
use Rattle.heap_model.specs.Packing.{WholeStretch}
use Rattle.heap_place.specs.declared.found.Found.{Found}
use Rattle.heap_place.specs.Found.{header_offset}

-- a movable chunk without locks has this name
pub record IsLoose (image : List ℕ) (name : ℕ) : Type 0 where
  pub live : LiveChunk
  pub is_held : held image name ≡ Some live
  pub unlocked : live.lock ≡ 0

-- a name's chunk has `count` bytes now: its first ones, or all of them and zeros after them
abbrev pub Resized : List ℕ → List ℕ → ℕ → ℕ → Type 0
Resized old new name count = Leaves old new (sized (held old) name count)

-- a movable chunk without locks was found, and its own bytes and the room of its stretch are at
-- least `size` bytes together
pub record FitsInStretch (image : List ℕ) (found : Found) (size : ℕ) : Type 0 where
  pub before : List Chunk
  pub front : List Chunk
  pub bytes : List ℕ
  pub owner : ℕ
  pub back : List Chunk
  pub after : List Chunk
  pub whole : WholeStretch image before (front ++ movable bytes 0 owner found.name.0 ∷ back) after
  pub there : header_offset found ≡ area_start image + total before + total front
  pub many : found.length ≡ length bytes
  pub enough : size ≤ need (length bytes) + room_of (front ++ back)
