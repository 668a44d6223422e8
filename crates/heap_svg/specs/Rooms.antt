-- Rooms: the free bytes of each stretch. A compact makes one free piece of each.
use Rattle.std.specs.Prelude.{◌≡◌, ◌+◌, ◌++◌, ◌==◌, ◌⊎◌, nat_lt, if◌then◌else◌, ℕ, zero, suc, Bool, true, false, List, [], ◌∷◌, length}
use Rattle.heap_model.specs.Chunk.{Chunk, free, movable, fixed, need}
use Rattle.heap_model.specs.Packing.{packed}
use Rattle.heap_model.specs.Reading.{chunks_of}
use Rattle.heap_model.specs.Slots.{area_start}
use Rattle.chunk_format.specs.declared.header.Header.{Header}
use Rattle.chunk_format.specs.declared.header.Header.TheVariants as headers
use Rattle.heap_map.specs.Pieces.{free_by}
use Rattle.heap_map.specs.Text.{free_sizes}
use Rattle.heap_svg.specs.declared.rooms.Room.{Room}
use Rattle.heap_svg.specs.declared.rooms.MetRooms.{MetRooms}

-- a room, if it has any bytes
abbrev pub kept : Room → List Room
kept room = if room.size == 0 then [] else room ∷ []

-- The rooms of the stretch that goes on and of those behind it, of chunks that begin at an offset. A chunk that is locked
-- or fixed ends a stretch, and the next one begins behind it.
abbrev pub rooms_from : Room → ℕ → List Chunk → List Room
rooms_from room at [] = kept room
rooms_from room at (free size ∷ chunks) = rooms_from (record room { size = room.size + size }) (at + size) chunks
rooms_from room at (movable bytes zero owner slot ∷ chunks) = rooms_from room (at + need (length bytes)) chunks
rooms_from room at (movable bytes (suc count) owner slot ∷ chunks) = kept room ++ rooms_from (record { start = at + need (length bytes); size = 0 }) (at + need (length bytes)) chunks
rooms_from room at (fixed bytes owner ∷ chunks) = kept room ++ rooms_from (record { start = at + need (length bytes); size = 0 }) (at + need (length bytes)) chunks

-- the rooms of an image, in order, each with the offset at which its stretch begins
unfoldable pub rooms_drawn : List ℕ → List Room
rooms_drawn image = rooms_from (record { start = area_start image; size = 0 }) (area_start image) (chunks_of image)

abbrev pub sizes : List Room → List ℕ
sizes [] = []
sizes (room ∷ rooms) = room.size ∷ sizes rooms

-- the free pieces that a compact leaves of an image: the room of each stretch that has any
abbrev pub compact_pieces : List ℕ → List ℕ
compact_pieces image = free_sizes (packed (chunks_of image))

-- ---- the rooms that a walk has met

-- a chunk with this header stays where it is: it is fixed, or has a lock
abbrev pub stays_by : Header → Bool
stays_by (headers.Free size) = false
stays_by (headers.Movable length lock owner slot) = nat_lt 0 lock
stays_by (headers.Fixed length owner) = true

-- one that stays ends a stretch, and the next one begins at its end
pub record EndsStretch (old new : MetRooms) (header : Header) (end : ℕ) : Type 0 where
  pub stays : stays_by header ≡ true
  pub met : new.met.items ≡ old.met.items ++ kept old.last
  pub last : new.last ≡ record { start = end; size = 0 }

-- any other one belongs to the stretch that goes on
pub record GoesOn (old new : MetRooms) (header : Header) : Type 0 where
  pub moves : stays_by header ≡ false
  pub met : new.met.items ≡ old.met.items
  pub last : new.last ≡ record old.last { size = old.last.size + free_by header }

-- a chunk with this header is added, which ends at an offset
abbrev pub AddsToRooms : MetRooms → MetRooms → Header → ℕ → Type 0
AddsToRooms old new header end = EndsStretch old new header end ⊎ GoesOn old new header
