-- Room for several parts. A call that makes some chunks, and may have one chunk grow, does these
-- parts one after the other.
use Rattle.std.specs.Prelude.{◌≡◌, ◌≤◌, ◌<◌, ◌+◌, ◌-◌, ◌⊎◌, ◌==◌, ℕ, Bool, false, List, [], ◌∷◌, length, slice_index, slice_set, IsSome, All}
use Rattle.std.specs.List.{list_any, position_or_len}
use Rattle.heap_model.specs.Chunk.{Chunk, free, movable, fixed, need}
use Rattle.heap_model.specs.Reading.{chunks_of, held}
use Rattle.heap_model.specs.Space.{stretches, rooms}
use Rattle.heap_model.specs.Store.{bytes_under}

-- ---- in which stretch a chunk is

-- the chunk is the movable one with this name
abbrev pub is_movable_as : ℕ → Chunk → Bool
is_movable_as name (free size) = false
is_movable_as name (movable bytes lock owner slot) = slot == name
is_movable_as name (fixed bytes owner) = false

-- The number of the stretch with the name's chunk, in the order of the stretches. If no stretch has
-- it, this is the count of stretches.
abbrev pub stretch_of : List ℕ → ℕ → ℕ
stretch_of image name = position_or_len (list_any (is_movable_as name)) (stretches (chunks_of image))

-- no chunk that was live and still is live has changed its stretch
abbrev pub KeepsStretches : List ℕ → List ℕ → Type 0
KeepsStretches old new = (name : ℕ) → IsSome (held old name) → IsSome (held new name) → stretch_of new name ≡ stretch_of old name

-- ---- one room lowered

-- one of these rooms is lower by `size`, and all others are as they were
pub record LowersOne (old new : List ℕ) (size : ℕ) : Type 0 where
  pub stretch : ℕ
  pub inside : stretch < length old
  pub reaches : size ≤ slice_index old stretch
  pub lower : new ≡ slice_set old stretch (slice_index old stretch - size)

-- the same for the rooms of two images, and no live chunk has changed its stretch
pub record Lowers (old new : List ℕ) (size : ℕ) : Type 0 where
  pub room : LowersOne (rooms old) (rooms new) size
  pub kept : KeepsStretches old new

-- ---- several parts

-- A part of a call. Either a chunk of this size is made. Or a chunk takes another size; then the
-- part gives the number of its stretch, its old size and its new one.
pub data Part : Type 0 where
  makes : ℕ → Part
  grows : ℕ → ℕ → ℕ → Part

-- the part that makes a chunk of `count` bytes
abbrev pub making : ℕ → Part
making count = makes (need count)

-- the part in which a name's chunk grows to `count` bytes
abbrev pub growth_part : List ℕ → ℕ → ℕ → Part
growth_part image name count = grows (stretch_of image name) (need (length (bytes_under image name))) (need count)

-- the room that a part takes
abbrev pub taken_by : Part → ℕ
taken_by (makes size) = size
taken_by (grows stretch before size) = size

-- the rooms for a part; the old size of a growing chunk counts as room of its own stretch
abbrev pub rooms_for : List ℕ → Part → List ℕ
rooms_for left (makes size) = left
rooms_for left (grows stretch before size) = slice_set left stretch (slice_index left stretch + before)

-- Some choice of stretches leaves a part without room. Either every room is too small for the first
-- part. Or one room is large enough, and after it is lowered by that part, the other parts can run
-- out of room. Without parts, nothing runs out of room.
abbrev pub Stuck : List ℕ → List Part → Type 0
Stuck left [] = ⊥
Stuck left (part ∷ parts) =
    All (λ room. room < taken_by part) (rooms_for left part)
    ⊎ ((lowered : List ℕ) × LowersOne (rooms_for left part) lowered (taken_by part) × Stuck lowered parts)
