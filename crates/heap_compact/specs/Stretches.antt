-- Stretches of an image, by their starts and ends, and the search for one.
use Rattle.std.specs.Prelude.{◌≡◌, ◌+◌, ◌-◌, ◌++◌, ◌≤◌, ◌<◌, max, ℕ, zero, suc, List, [], ◌∷◌, length, All}
use Rattle.heap_model.specs.Chunk.{Chunk, free, movable, fixed, total, SpelledAll}
use Rattle.heap_model.specs.Slots.{area_start}
use Rattle.heap_model.specs.Reading.{chunks_of}
use Rattle.heap_model.specs.Space.{NoneStays, room_of, rooms_of, stretches}
use Rattle.heap_model.specs.Layout.{Becomes, IsRoom}
use Rattle.heap_model.specs.Packing.{packed, moved_by_packing, EndsStaying, WholeStretch, opened}
use Rattle.heap_place.specs.declared.found.Found.{Found}
use Rattle.heap_place.specs.Found.{header_offset}
use Rattle.heap_compact.specs.declared.stretch.Stretch.{Stretch}

-- the chunks `mid` are a whole stretch, and `stretch` has its start and end
pub record StretchIs (image : List ℕ) (before mid after : List Chunk) (stretch : Stretch) : Type 0 where
  pub whole : WholeStretch image before mid after
  pub from : stretch.start ≡ area_start image + total before
  pub to : stretch.end ≡ stretch.start + total mid

-- `stretch` is the place of a whole stretch
pub record IsStretch (image : List ℕ) (stretch : Stretch) : Type 0 where
  pub before : List Chunk
  pub mid : List Chunk
  pub after : List Chunk
  pub is : StretchIs image before mid after stretch

-- in the layout the chunks of the stretch are packed, and all others are as they were
abbrev pub PacksStretch : List ℕ → List ℕ → Stretch → Type 0
PacksStretch old new stretch = (before mid after : List Chunk) → StretchIs old before mid after stretch → Becomes old new (before ++ (packed mid ++ after))

-- a count of slid bytes has risen by exactly the bytes that packing the stretch moves
abbrev pub SlidesStretch : List ℕ → Stretch → ℕ → ℕ → Type 0
SlidesStretch image stretch old new = (before mid after : List Chunk) → StretchIs image before mid after stretch → new ≡ old + moved_by_packing mid

-- a stretch has `room` bytes of room
abbrev pub HasRoomOf : List ℕ → Stretch → ℕ → Type 0
HasRoomOf image stretch room = (before mid after : List Chunk) → StretchIs image before mid after stretch → room ≡ room_of mid

-- a stretch had `room` bytes of room, and all of it is now at the end of the stretch
pub record RoomAtEnd (old new : List ℕ) (stretch : Stretch) (room : ℕ) : Type 0 where
  pub all_room : HasRoomOf old stretch room
  pub at_end : 0 < room → IsRoom new (stretch.end - room) room

-- a movable chunk without locks and with `count` bytes, which names the slot `name`, begins at `at`
pub record IsUnlocked (image : List ℕ) (at name count : ℕ) : Type 0 where
  pub before : List Chunk
  pub bytes : List ℕ
  pub owner : ℕ
  pub after : List Chunk
  pub chunks : chunks_of image ≡ before ++ movable bytes 0 owner name ∷ after
  pub there : at ≡ area_start image + total before
  pub many : count ≡ length bytes

-- a movable chunk without locks and with `count` bytes, which names the slot `name`, begins at `at`
-- and belongs to this stretch
pub record IsAmongAt (image : List ℕ) (at name count : ℕ) (stretch : Stretch) : Type 0 where
  pub before : List Chunk
  pub front : List Chunk
  pub bytes : List ℕ
  pub owner : ℕ
  pub back : List Chunk
  pub after : List Chunk
  pub is : StretchIs image before (front ++ movable bytes 0 owner name ∷ back) after stretch
  pub there : at ≡ area_start image + total before + total front
  pub many : count ≡ length bytes

-- the same for a chunk that was found
abbrev pub IsFoundAmong : List ℕ → Found → Stretch → Type 0
IsFoundAmong image found stretch = IsAmongAt image (header_offset found) found.name.0 found.length stretch

-- The room of its stretch is directly after the movable chunk without locks at `at`. The image has
-- exactly these chunks, so that the room is one free chunk.
abbrev pub OpensExactly : List ℕ → List ℕ → ℕ → Type 0
OpensExactly old new at =
    (before front : List Chunk) (bytes : List ℕ) (owner slot : ℕ) (back after : List Chunk) → WholeStretch old before (front ++ movable bytes 0 owner slot ∷ back) after
    → at ≡ area_start old + total before + total front → chunks_of new ≡ before ++ (opened front (movable bytes 0 owner slot) back ++ after)

-- the search is at `here`, and the last chunk that stays ends at `start`, at or before `at`
pub record SeenUpTo (image : List ℕ) (at start here : ℕ) : Type 0 where
  pub closed : List Chunk
  pub run : List Chunk
  pub spelled : SpelledAll image (area_start image) (closed ++ run) here
  pub none_stays : NoneStays run
  pub ends : EndsStaying closed
  pub from : start ≡ area_start image + total closed
  pub low : start ≤ at
  pub inside : here ≤ length image

-- ---- the search for room

-- `stretch` is the place of a whole stretch whose room has `size` bytes
pub record HasRoom (image : List ℕ) (size : ℕ) (stretch : Stretch) : Type 0 where
  pub before : List Chunk
  pub mid : List Chunk
  pub after : List Chunk
  pub is : StretchIs image before mid after stretch
  pub enough : size ≤ room_of mid

-- the search is at `here`: every stretch before the last chunk that stays has less than `size`
-- bytes of room; after that chunk there are `room` bytes of room so far
pub record SeenRooms (image : List ℕ) (size start here room : ℕ) : Type 0 where
  pub seen : SeenUpTo image start start here
  pub room_is : room ≡ room_of seen.run
  pub short : All (λ other. other < size) (rooms_of (stretches seen.closed))

-- the greatest room of the stretches of some chunks, if `room` bytes of room of their first stretch
-- are before them
abbrev pub greatest_behind : ℕ → List Chunk → ℕ
greatest_behind room [] = room
greatest_behind room (free size ∷ chunks) = greatest_behind (room + size) chunks
greatest_behind room (movable bytes zero owner slot ∷ chunks) = greatest_behind room chunks
greatest_behind room (movable bytes (suc count) owner slot ∷ chunks) = max room (greatest_behind 0 chunks)
greatest_behind room (fixed bytes owner ∷ chunks) = max room (greatest_behind 0 chunks)

-- the last stretch of some chunks has `room` bytes of room, and the greatest room of those before
-- it is `largest`
pub record HaveRooms (largest room : ℕ) (chunks : List Chunk) : Type 0 where
  pub on : (others : List Chunk) → greatest_behind 0 (chunks ++ others) ≡ max largest (greatest_behind room others)
  pub fits : room ≤ total chunks

-- ---- the room of one stretch

-- a walk over the chunks `mid`, which begin at `start`, is at `at`, and has passed `room` bytes of
-- room
pub record Summed (mid : List Chunk) (start at room : ℕ) : Type 0 where
  pub front : List Chunk
  pub rest : List Chunk
  pub parts : mid ≡ front ++ rest
  pub there : at ≡ start + total front
  pub sums : room ≡ room_of front

-- a walk over the chunks of a stretch is at `at`, and has passed `room` bytes of room
abbrev pub SumsUpTo : List ℕ → Stretch → ℕ → ℕ → Type 0
SumsUpTo image stretch at room = (before mid after : List Chunk) → StretchIs image before mid after stretch → Summed mid stretch.start at room
