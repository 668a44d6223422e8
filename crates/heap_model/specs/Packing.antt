-- Compaction: the chunks of each stretch slide to its start, so that its room is one free chunk
-- after them. And the relations for one stretch whose chunks slide.
use Rattle.std.specs.Prelude.{◌≡◌, ◌+◌, ◌++◌, ◌==◌, if◌then◌else◌, IsTrue, ℕ, zero, suc, List, [], ◌∷◌, length, All}
use Rattle.heap_model.specs.Chunk.{Chunk, free, movable, fixed, need, total}
use Rattle.heap_model.specs.Slots.{area_start}
use Rattle.heap_model.specs.Reading.{chunks_of}
use Rattle.heap_model.specs.Space.{stays_put, NoneStays, stretches, room_of}
use Rattle.heap_model.specs.Layout.{Becomes, gap}

-- ---- what is to be reached

-- no chunk comes after a free one: there is at most one free chunk, and it is the last
abbrev pub FreeIsLast : List Chunk → Type 0
FreeIsLast [] = Unit {0}
FreeIsLast (free size ∷ chunks) = chunks ≡ []
FreeIsLast (movable bytes lock owner slot ∷ chunks) = FreeIsLast chunks
FreeIsLast (fixed bytes owner ∷ chunks) = FreeIsLast chunks

-- each stretch has at most one free chunk, which is the stretch's last chunk
abbrev pub Packed : List Chunk → Type 0
Packed chunks = All FreeIsLast (stretches chunks)

-- the live ones of these chunks
abbrev pub lives : List Chunk → List Chunk
lives [] = []
lives (free size ∷ chunks) = lives chunks
lives (movable bytes lock owner slot ∷ chunks) = movable bytes lock owner slot ∷ lives chunks
lives (fixed bytes owner ∷ chunks) = fixed bytes owner ∷ lives chunks

-- the offsets of the chunks that stay; the first chunk begins at `at`
abbrev pub staying : ℕ → List Chunk → List ℕ
staying at [] = []
staying at (free size ∷ chunks) = staying (at + size) chunks
staying at (movable bytes zero owner slot ∷ chunks) = staying (at + need (length bytes)) chunks
staying at (movable bytes (suc count) owner slot ∷ chunks) = at ∷ staying (at + need (length bytes)) chunks
staying at (fixed bytes owner ∷ chunks) = at ∷ staying (at + need (length bytes)) chunks

-- The chunks have slid. The same chunks are live, in the same order, each with its bytes, lock,
-- owner and slot. Those that stay are where they were, and the total size is the same.
pub record Slid (old new : List Chunk) : Type 0 where
  pub same : lives new ≡ lives old
  pub stay : staying 0 new ≡ staying 0 old
  pub sizes : total new ≡ total old

-- ---- how it is reached

-- The chunks packed, if their stretch has `room` free bytes before them. The room goes after the
-- chunks of the stretch, before the next chunk that stays.
abbrev pub packed_behind : ℕ → List Chunk → List Chunk
packed_behind room [] = gap room
packed_behind room (free size ∷ chunks) = packed_behind (room + size) chunks
packed_behind room (movable bytes zero owner slot ∷ chunks) = movable bytes 0 owner slot ∷ packed_behind room chunks
packed_behind room (movable bytes (suc count) owner slot ∷ chunks) = gap room ++ movable bytes (suc count) owner slot ∷ packed_behind 0 chunks
packed_behind room (fixed bytes owner ∷ chunks) = gap room ++ fixed bytes owner ∷ packed_behind 0 chunks

-- the chunks as compaction leaves them
abbrev pub packed : List Chunk → List Chunk
packed chunks = packed_behind 0 chunks

-- the total size of the chunks that packing moves: those with room of their stretch before them
abbrev pub moved_behind : ℕ → List Chunk → ℕ
moved_behind room [] = 0
moved_behind room (free size ∷ chunks) = moved_behind (room + size) chunks
moved_behind room (movable bytes zero owner slot ∷ chunks) = (if room == 0 then 0 else need (length bytes)) + moved_behind room chunks
moved_behind room (movable bytes (suc count) owner slot ∷ chunks) = moved_behind 0 chunks
moved_behind room (fixed bytes owner ∷ chunks) = moved_behind 0 chunks

abbrev pub moved_by_packing : List Chunk → ℕ
moved_by_packing chunks = moved_behind 0 chunks

-- ---- one stretch

-- the last of these chunks stays, if there is one
abbrev pub EndsStaying : List Chunk → Type 0
EndsStaying [] = Unit {0}
EndsStaying (chunk ∷ []) = IsTrue (stays_put chunk)
EndsStaying (chunk ∷ next ∷ chunks) = EndsStaying (next ∷ chunks)

-- the first of these chunks stays, if there is one
abbrev pub BeginsStaying : List Chunk → Type 0
BeginsStaying [] = Unit {0}
BeginsStaying (chunk ∷ chunks) = IsTrue (stays_put chunk)

-- between the chunks before it and those after it, `stretch` is a whole stretch of the image
pub record WholeStretch (image : List ℕ) (before stretch after : List Chunk) : Type 0 where
  pub chunks : chunks_of image ≡ before ++ (stretch ++ after)
  pub none_stays : NoneStays stretch
  pub in_front : EndsStaying before
  pub behind : BeginsStaying after

-- In the layout, some neighbouring chunks of which none stays have slid. All other chunks are as
-- they were.
pub record SlidesOneStretch (old new : List ℕ) : Type 0 where
  pub before : List Chunk
  pub mid : List Chunk
  pub others : List Chunk
  pub after : List Chunk
  pub chunks : chunks_of old ≡ before ++ (mid ++ after)
  pub none_stays : NoneStays mid
  pub slid : Slid mid others
  pub becomes : Becomes old new (before ++ (others ++ after))

-- a stretch with its room directly after one of its chunks, as one free chunk, or none if there is
-- no room
abbrev pub opened : List Chunk → Chunk → List Chunk → List Chunk
opened front chunk back = lives front ++ chunk ∷ (gap (room_of (front ++ back)) ++ lives back)

-- the movable chunk without locks at an offset gets the room of its stretch directly after it
abbrev pub OpensBehind : List ℕ → List ℕ → ℕ → Type 0
OpensBehind old new at =
    (before front : List Chunk) (bytes : List ℕ) (owner slot : ℕ) (back after : List Chunk) → WholeStretch old before (front ++ movable bytes 0 owner slot ∷ back) after
    → at ≡ area_start old + total before + total front → Becomes old new (before ++ (opened front (movable bytes 0 owner slot) back ++ after))
