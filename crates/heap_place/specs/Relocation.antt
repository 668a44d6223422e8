-- A chunk moves to room elsewhere. A fixed chunk stands in for it there, gets its bytes, and gets
-- its name when the old chunk is free.
use Rattle.std.specs.Prelude.{◌≤◌, ◌+◌, ℕ, List, take}
use Rattle.heap_model.specs.Chunk.{Chunk, free, movable, fixed, fixed_lock, need}
use Rattle.heap_model.specs.Layout.{Alters, with_bytes, IsSpot}
use Rattle.heap_model.specs.Resizing.{with_length, Relocates}
use Rattle.heap_place.specs.declared.found.Found.{Found}
use Rattle.heap_place.specs.Found.{IsOne, header_offset}

-- the stand-in of `count` bytes that begins at `at`, as a found chunk
abbrev pub stand_in : ℕ → ℕ → Found
stand_in at count = record { name = record { 0 = at + 8 }; place = record { 0 = at + 8 }; length = count; lock = fixed_lock; owner = 1 }

-- each chunk that was found is still at its place, with all that was found of it
abbrev pub KeepsFound : List ℕ → List ℕ → Type 0
KeepsFound old new = (found : Found) → IsOne old found → IsOne new found

-- the chunk `to` has got the first bytes of the chunk `from`, as many as it has room for
abbrev pub Copies : List ℕ → List ℕ → Found → Found → Type 0
Copies old new from to = (f : IsOne old from) → Alters old new (header_offset to) (with_bytes 0 (take to.length f.live.bytes))

-- a fixed chunk as a movable one without locks, with this owner, which names `slot`; any other
-- chunk as it is
abbrev pub with_name : ℕ → ℕ → Chunk → Chunk
with_name owner slot (free size) = free size
with_name owner slot (movable bytes lock holder named) = movable bytes lock holder named
with_name owner slot (fixed bytes holder) = movable bytes 0 owner slot

-- the chunk that was found is now at the start of the room, with `count` bytes
abbrev pub RelocatesFound : List ℕ → List ℕ → Found → ℕ → ℕ → ℕ → Type 0
RelocatesFound old new found there room count = (f : IsOne old found) → Relocates old new (header_offset found) there room (with_length count f.chunk)

-- the chunk that was found is now at the start of neighbouring free chunks that had the room
pub record RelocatesToRun (old new : List ℕ) (found : Found) (count : ℕ) : Type 0 where
  pub at : ℕ
  pub size : ℕ
  pub room : IsSpot old at size
  pub enough : need count ≤ size
  pub moved : RelocatesFound old new found at size count
