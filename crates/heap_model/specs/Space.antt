-- Free chunks and free slots: how much there is, and where. And where live chunks are.
use Rattle.std.specs.Prelude.{◌≡◌, ◌≢◌, ◌<◌, ◌≤◌, ◌+◌, ◌++◌, ◌==◌, max, if◌then◌else◌, ℕ, zero, suc, Bool, true, false, List, [], ◌∷◌, length, filter, count_by, sum_by, Option, Some, None, IsSome, All}
use Rattle.heap_model.specs.Bytes.{u32_at}
use Rattle.heap_model.specs.Chunk.{Chunk, free, movable, fixed, need, total, free_size}
use Rattle.heap_model.specs.Slots.{slots_of, area_start}
use Rattle.heap_model.specs.Meaning.{LiveChunk}
use Rattle.heap_model.specs.Reading.{chunks_of, is_fixed_name, live_under, held}

-- ---- how much is free

-- the total size of the free chunks
abbrev pub free_total : List ℕ → ℕ
free_total image = sum_by free_size (chunks_of image)

-- how many slots are empty
abbrev pub free_slots : List ℕ → ℕ
free_slots image = count_by (λ slot. u32_at image slot == 0) (slots_of image)

-- ---- runs of neighbouring free chunks

abbrev pub AllFree : List Chunk → Type 0
AllFree [] = Unit {0}
AllFree (free size ∷ chunks) = AllFree chunks
AllFree (movable bytes lock owner slot ∷ chunks) = ⊥
AllFree (fixed bytes owner ∷ chunks) = ⊥

-- every run of neighbouring free chunks has less than `size` bytes
abbrev pub NoRun : List Chunk → ℕ → Type 0
NoRun chunks size = (before run after : List Chunk) → chunks ≡ before ++ (run ++ after) → AllFree run → sum_by free_size run < size

-- ---- stretches: longest runs of neighbouring chunks without one that stays

-- a chunk that stays where it is: it is fixed, or has a lock
abbrev pub stays_put : Chunk → Bool
stays_put (free size) = false
stays_put (movable bytes zero owner slot) = false
stays_put (movable bytes (suc count) owner slot) = true
stays_put (fixed bytes owner) = true

-- none of these chunks stays
abbrev pub NoneStays : List Chunk → Type 0
NoneStays [] = Unit {0}
NoneStays (free size ∷ chunks) = NoneStays chunks
NoneStays (movable bytes zero owner slot ∷ chunks) = NoneStays chunks
NoneStays (movable bytes (suc count) owner slot ∷ chunks) = ⊥
NoneStays (fixed bytes owner ∷ chunks) = ⊥

-- the runs with a chunk put at the start of the first one
abbrev pub onto_first : Chunk → List (List Chunk) → List (List Chunk)
onto_first chunk [] = (chunk ∷ []) ∷ []
onto_first chunk (run ∷ runs) = (chunk ∷ run) ∷ runs

-- the runs between chunks that stay; some runs may be empty
abbrev pub runs_between : List Chunk → List (List Chunk)
runs_between [] = [] ∷ []
runs_between (chunk ∷ chunks) = if stays_put chunk then [] ∷ runs_between chunks else onto_first chunk (runs_between chunks)

abbrev pub has_chunk : List Chunk → Bool
has_chunk [] = false
has_chunk (chunk ∷ chunks) = true

abbrev pub stretches : List Chunk → List (List Chunk)
stretches chunks = filter has_chunk (runs_between chunks)

-- the free bytes of a stretch
abbrev pub room_of : List Chunk → ℕ
room_of stretch = sum_by free_size stretch

abbrev pub rooms_of : List (List Chunk) → List ℕ
rooms_of [] = []
rooms_of (stretch ∷ others) = room_of stretch ∷ rooms_of others

-- the rooms of an image, in order
abbrev pub rooms : List ℕ → List ℕ
rooms image = rooms_of (stretches (chunks_of image))

-- the image is short of `size` bytes: each stretch has less room
abbrev pub Short : List ℕ → ℕ → Type 0
Short image size = All (λ room. room < size) (rooms image)

-- the chunks, with the movable chunk of a name made free
abbrev pub with_freed : List Chunk → ℕ → List Chunk
with_freed [] name = []
with_freed (free size ∷ chunks) name = free size ∷ with_freed chunks name
with_freed (movable bytes lock owner slot ∷ chunks) name = (if slot == name then free (need (length bytes)) else movable bytes lock owner slot) ∷ with_freed chunks name
with_freed (fixed bytes owner ∷ chunks) name = fixed bytes owner ∷ with_freed chunks name

-- the same, but the size of the name's movable chunk counts as room of its own stretch
abbrev pub ShortFor : List ℕ → ℕ → ℕ → Type 0
ShortFor image name size = All (λ room. room < size) (rooms_of (stretches (with_freed (chunks_of image) name)))

-- the total size of the free chunks with which a list begins
abbrev pub free_front : List Chunk → ℕ
free_front [] = 0
free_front (free size ∷ chunks) = size + free_front chunks
free_front (movable bytes lock owner slot ∷ chunks) = 0
free_front (fixed bytes owner ∷ chunks) = 0

-- the total size of the free chunks directly after the movable chunk of a name
abbrev pub free_behind_in : List Chunk → ℕ → ℕ
free_behind_in [] name = 0
free_behind_in (free size ∷ chunks) name = free_behind_in chunks name
free_behind_in (movable bytes lock owner slot ∷ chunks) name = if slot == name then free_front chunks else free_behind_in chunks name
free_behind_in (fixed bytes owner ∷ chunks) name = free_behind_in chunks name

abbrev pub free_behind : List ℕ → ℕ → ℕ
free_behind image name = free_behind_in (chunks_of image) name

-- the name's chunk and the free chunks directly after it have at least `size` bytes together
abbrev pub FitsInPlace : List ℕ → ℕ → ℕ → Type 0
FitsInPlace image name size = (live : LiveChunk) → held image name ≡ Some live → size ≤ need (length live.bytes) + free_behind image name

-- the greatest room, or 0 if there is none
abbrev pub greatest : List ℕ → ℕ
greatest [] = 0
greatest (room ∷ others) = max room (greatest others)

-- ---- where live chunks are

-- the place of a name, among chunks of which the first begins at an offset
abbrev pub place_under : ℕ → List Chunk → ℕ → Option ℕ
place_under at [] name = None
place_under at (free size ∷ chunks) name = place_under (at + size) chunks name
place_under at (movable bytes lock owner slot ∷ chunks) name = if slot == name then Some (at + 8) else place_under (at + need (length bytes)) chunks name
place_under at (fixed bytes owner ∷ chunks) name = if is_fixed_name at owner name then Some (at + 8) else place_under (at + need (length bytes)) chunks name

-- the place of a name's chunk
abbrev pub place_of : List ℕ → ℕ → Option ℕ
place_of image name = place_under (area_start image) (chunks_of image) name

-- Each chunk that was locked or fixed, and is still live, is where it was.
abbrev pub Still : List ℕ → List ℕ → Type 0
Still old new = (name : ℕ) (live : LiveChunk) → held old name ≡ Some live → 0 < live.lock → IsSome (held new name) → place_of new name ≡ place_of old name

-- no chunk that was live and still is live has another place
abbrev pub MovesNothing : List ℕ → List ℕ → Type 0
MovesNothing old new = (name : ℕ) → IsSome (held old name) → IsSome (held new name) → place_of new name ≡ place_of old name

-- The same for all chunks except those of one stretch: neighbours of which none stays.
pub record MovesOneStretch (old new : List ℕ) : Type 0 where
  pub before : List Chunk
  pub mid : List Chunk
  pub after : List Chunk
  pub chunks : chunks_of old ≡ before ++ (mid ++ after)
  pub none_stays : NoneStays mid
  pub others : (name : ℕ) → live_under (area_start old + total before) mid name ≡ None → IsSome (held old name) → IsSome (held new name) → place_of new name ≡ place_of old name

-- no chunk that was live and still is live has another place, except the chunk of one name
abbrev pub MovesAlone : List ℕ → List ℕ → ℕ → Type 0
MovesAlone old new moved = (name : ℕ) → name ≢ moved → IsSome (held old name) → IsSome (held new name) → place_of new name ≡ place_of old name

-- The same for all chunks except that of one name and those of one stretch.
pub record MovesOneStretchAnd (old new : List ℕ) (moved : ℕ) : Type 0 where
  pub before : List Chunk
  pub mid : List Chunk
  pub after : List Chunk
  pub chunks : chunks_of old ≡ before ++ (mid ++ after)
  pub none_stays : NoneStays mid
  pub others : (name : ℕ) → name ≢ moved → live_under (area_start old + total before) mid name ≡ None → IsSome (held old name) → IsSome (held new name) → place_of new name ≡ place_of old name

abbrev pub is_there : Option ℕ → ℕ → Bool
is_there None place = false
is_there (Some found) place = found == place

-- The total size of the movable chunks that have another place in a new image. The first of these
-- chunks begins at an offset.
abbrev pub moved_from : ℕ → List Chunk → List ℕ → ℕ
moved_from at [] new = 0
moved_from at (free size ∷ chunks) new = moved_from (at + size) chunks new
moved_from at (movable bytes lock owner slot ∷ chunks) new = (if is_there (place_of new slot) (at + 8) then 0 else need (length bytes)) + moved_from (at + need (length bytes)) chunks new
moved_from at (fixed bytes owner ∷ chunks) new = moved_from (at + need (length bytes)) chunks new

abbrev pub moved_bytes : List ℕ → List ℕ → ℕ
moved_bytes old new = moved_from (area_start old) (chunks_of old) new
