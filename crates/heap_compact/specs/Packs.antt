-- Chunks are packed one after the other. Each free one is joined with the room before it, and each
-- one that may move goes down over that room.
use Rattle.std.specs.Prelude.{◌≡◌, ◌<◌, ◌+◌, ◌++◌, ◌==◌, if◌then◌else◌, ℕ, zero, suc, List, [], ◌∷◌, length, Option, Some, None}
use Rattle.heap_model.specs.Chunk.{Chunk, free, movable, fixed, need, size_of, total}
use Rattle.heap_model.specs.Slots.{area_start}
use Rattle.heap_model.specs.Reading.{chunks_of}
use Rattle.heap_model.specs.Layout.{gap, WritesPlain}
use Rattle.heap_model.specs.Packing.{packed_behind, packed, moved_behind, moved_by_packing}
use Rattle.heap_model.specs.Placing.{SameFrame}
use Rattle.chunk_format.specs.declared.header.Header.{Header}
use Rattle.chunk_format.specs.declared.header.Header.TheVariants as headers

-- The image has become an accepted heap with exactly these chunks, in the same frame, and each
-- header of a free chunk that was written is plain. `Becomes` leaves open how runs of free chunks
-- are split.
pub record BecomesExactly (old new : List ℕ) (chunks : List Chunk) : Type 0 where
  pub frame : SameFrame old new
  pub exact : chunks_of new ≡ chunks
  pub plain : WritesPlain old new

-- ---- some chunks in a row

-- the chunks `mid` of an image fill it from `start` up to `end`
pub record IsRun (image : List ℕ) (start end : ℕ) : Type 0 where
  pub before : List Chunk
  pub mid : List Chunk
  pub after : List Chunk
  pub chunks : chunks_of image ≡ before ++ (mid ++ after)
  pub from : start ≡ area_start image + total before
  pub to : end ≡ start + total mid

-- the chunks from `start` up to `end` are packed
abbrev pub Packs : List ℕ → List ℕ → ℕ → ℕ → Type 0
Packs old new start end =
    (run : IsRun old start end) → BecomesExactly old new (run.before ++ (packed run.mid ++ run.after))

-- `moved` bytes of the chunks from `start` up to `end` move when they are packed
abbrev pub MovesInRun : List ℕ → ℕ → ℕ → ℕ → Type 0
MovesInRun image start end moved = (run : IsRun image start end) → moved ≡ moved_by_packing run.mid

-- the room at the end of some chunks when they are packed, if `room` bytes of room are before them
abbrev pub last_room : ℕ → List Chunk → ℕ
last_room room [] = room
last_room room (free size ∷ chunks) = last_room (room + size) chunks
last_room room (movable bytes zero owner slot ∷ chunks) = last_room room chunks
last_room room (movable bytes (suc count) owner slot ∷ chunks) = last_room 0 chunks
last_room room (fixed bytes owner ∷ chunks) = last_room 0 chunks

-- `room` bytes of room are at the end of the chunks from `start` up to `end` when they are packed
abbrev pub LeavesLastRoom : List ℕ → ℕ → ℕ → ℕ → Type 0
LeavesLastRoom image start end room = (run : IsRun image start end) → room ≡ last_room 0 run.mid

-- ---- one chunk

-- a room of `room` bytes and the chunk after it, packed
abbrev pub packed_one : ℕ → Chunk → List Chunk
packed_one room (free size) = gap (room + size)
packed_one room (movable bytes zero owner slot) = movable bytes 0 owner slot ∷ gap room
packed_one room (movable bytes (suc count) owner slot) = gap room ++ movable bytes (suc count) owner slot ∷ []
packed_one room (fixed bytes owner) = gap room ++ fixed bytes owner ∷ []

-- the room after a packed chunk
abbrev pub room_after : ℕ → Chunk → ℕ
room_after room (free size) = room + size
room_after room (movable bytes zero owner slot) = room
room_after room (movable bytes (suc count) owner slot) = 0
room_after room (fixed bytes owner) = 0

-- the number of bytes that packing the chunk moves
abbrev pub moved_one : ℕ → Chunk → ℕ
moved_one room (free size) = 0
moved_one room (movable bytes zero owner slot) = if room == 0 then 0 else need (length bytes)
moved_one room (movable bytes (suc count) owner slot) = 0
moved_one room (fixed bytes owner) = 0

-- the chunk of a header stays at its place
abbrev pub HeaderStays : Header → Type 0
HeaderStays (headers.Free size) = ⊥
HeaderStays (headers.Movable length lock owner slot) = 0 < lock
HeaderStays (headers.Fixed length owner) = Unit {0}

-- the slot that a header names, if it is a movable chunk's
abbrev pub slot_by : Header → Option ℕ
slot_by (headers.Free size) = None
slot_by (headers.Movable length lock owner slot) = Some slot
slot_by (headers.Fixed length owner) = None

-- `chunk` begins at `at`; before it are `room` free bytes, in one chunk, or in none if `room` is 0
pub record IsBehindRoom (image : List ℕ) (at room : ℕ) : Type 0 where
  pub before : List Chunk
  pub chunk : Chunk
  pub after : List Chunk
  pub chunks : chunks_of image ≡ before ++ (gap room ++ chunk ∷ after)
  pub there : at ≡ area_start image + total before + room

-- a chunk is packed, with `room` bytes of room before it; the numbers are its size, the bytes of it
-- that moved, and the room after it
pub record PackedOne {old : List ℕ} {at room : ℕ} (b : IsBehindRoom old at room) (new : List ℕ) (size moved room_then : ℕ) : Type 0 where
  pub becomes : BecomesExactly old new (b.before ++ (packed_one room b.chunk ++ b.after))
  pub size_is : size ≡ size_of b.chunk
  pub moved_is : moved ≡ moved_one room b.chunk
  pub room_is : room_then ≡ room_after room b.chunk

-- the chunk at `at`, of `size` bytes and with `room` bytes of room before it, is packed: `moved`
-- bytes of it move, and `room_then` bytes of room are after it
abbrev pub PacksOne : List ℕ → List ℕ → ℕ → ℕ → ℕ → ℕ → ℕ → Type 0
PacksOne old new at room size moved room_then =
    (b : IsBehindRoom old at room) → PackedOne b new size moved room_then

-- a movable chunk of `size` bytes begins at `at`, has no locks and names `slot`; before it is a free
-- chunk of `room` bytes
pub record IsDroppable (image : List ℕ) (at room size slot : ℕ) : Type 0 where
  pub before : List Chunk
  pub bytes : List ℕ
  pub owner : ℕ
  pub after : List Chunk
  pub chunks : chunks_of image ≡ before ++ free room ∷ movable bytes 0 owner slot ∷ after
  pub there : at ≡ area_start image + total before + room
  pub takes : size ≡ need (length bytes)

-- that chunk goes down over the free one before it
abbrev pub MovesDown : List ℕ → List ℕ → ℕ → ℕ → ℕ → ℕ → Type 0
MovesDown old new at room size slot =
    (d : IsDroppable old at room size slot) → BecomesExactly old new (d.before ++ movable d.bytes 0 d.owner slot ∷ free room ∷ d.after)

-- ---- the loop

-- of the chunks of a run those before `at` are packed: `moved` bytes of them have moved, and `room`
-- bytes of room are at their end
pub record Packing {old : List ℕ} {start end : ℕ} (run : IsRun old start end) (image : List ℕ) (at moved room : ℕ) : Type 0 where
  pub done : List Chunk
  pub rest : List Chunk
  pub becomes : BecomesExactly old image (run.before ++ (done ++ (gap room ++ (rest ++ run.after))))
  pub packs : done ++ packed_behind room rest ≡ packed run.mid
  pub there : at ≡ start + total done + room
  pub ends : end ≡ at + total rest
  pub moved_is : moved + moved_behind room rest ≡ moved_by_packing run.mid
  pub room_is : last_room room rest ≡ last_room 0 run.mid

-- the packing of the chunks from `start` up to `end` is at `at`: `moved` bytes have moved, and
-- `room` bytes of room are before `at`
abbrev pub PacksUpTo : List ℕ → List ℕ → ℕ → ℕ → ℕ → ℕ → ℕ → Type 0
PacksUpTo old image start end at moved room = (run : IsRun old start end) → Packing run image at moved room
