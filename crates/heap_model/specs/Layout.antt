-- The layout of an image: its chunks, with each run of neighbouring free ones as one. The contents
-- of an image, their places, and the room that is left are functions of its layout and of where its
-- chunks begin. So contracts give the layout after a call, and leave open how runs of free chunks
-- are split.
use Rattle.std.specs.Prelude.{◌≡◌, ◌≤◌, ◌<◌, ◌+◌, ◌-◌, ◌%◌, ◌^◌, ◌++◌, ◌⊎◌, ◌==◌, if◌then◌else◌, ℕ, zero, suc, List, [], ◌∷◌, All}
use Rattle.heap_model.specs.Bytes.{u32_at, overwritten}
use Rattle.heap_model.specs.Chunk.{Chunk, free, movable, fixed, size_of, total, free_size, is_owned_by}
use Rattle.heap_model.specs.Space.{AllFree}
use Rattle.heap_model.specs.Slots.{area_start}
use Rattle.heap_model.specs.Reading.{chunks_of}
use Rattle.heap_model.specs.Placed.{AnyPlaced}
use Rattle.heap_model.specs.Placing.{SameFrame}

-- a free chunk before others, joined with their first chunk if that is free
abbrev pub free_onto : ℕ → List Chunk → List Chunk
free_onto size [] = free size ∷ []
free_onto size (free more ∷ chunks) = free (size + more) ∷ chunks
free_onto size (movable bytes lock owner slot ∷ chunks) = free size ∷ movable bytes lock owner slot ∷ chunks
free_onto size (fixed bytes owner ∷ chunks) = free size ∷ fixed bytes owner ∷ chunks

-- the same chunks, with each run of neighbouring free ones as one
abbrev pub merged : List Chunk → List Chunk
merged [] = []
merged (free size ∷ chunks) = free_onto size (merged chunks)
merged (movable bytes lock owner slot ∷ chunks) = movable bytes lock owner slot ∷ merged chunks
merged (fixed bytes owner ∷ chunks) = fixed bytes owner ∷ merged chunks

-- the layout of an image
abbrev pub layout_of : List ℕ → List Chunk
layout_of image = merged (chunks_of image)

-- each of some chunks has less than `size` bytes that are free
abbrev pub AllBelow : ℕ → List Chunk → Type 0
AllBelow size chunks = All (λ chunk. free_size chunk < size) chunks

-- The image has become an accepted heap with the layout of these chunks, in the same frame. The
-- contents of each slot follow from the layout.
pub record Becomes (old new : List ℕ) (chunks : List Chunk) : Type 0 where
  pub frame : SameFrame old new
  pub layout : layout_of new ≡ merged chunks

-- ---- one chunk of a layout, and others for it

-- some chunks, which begin at an offset, with others in place of the chunk at `there`
unfoldable pub exchanged : ℕ → (Chunk → List Chunk) → ℕ → List Chunk → List Chunk
exchanged there change at [] = []
exchanged there change at (chunk ∷ chunks) = (if at == there then change chunk else chunk ∷ []) ++ exchanged there change (at + size_of chunk) chunks

-- in the layout, others are in place of the chunk that was at an offset, and all else is as before
abbrev pub Exchanges : List ℕ → List ℕ → ℕ → (Chunk → List Chunk) → Type 0
Exchanges old new there change = Becomes old new (exchanged there change (area_start old) (layout_of old))

-- the same, if one chunk is changed
abbrev pub Alters : List ℕ → List ℕ → ℕ → (Chunk → Chunk) → Type 0
Alters old new there change = Exchanges old new there (λ chunk. change chunk ∷ [])

-- a free chunk of the given size, or none for 0
abbrev pub gap : ℕ → List Chunk
gap zero = []
gap (suc more) = free (suc more) ∷ []

-- a chunk at the start of another's bytes, and the bytes after it free
abbrev pub in_front : Chunk → Chunk → List Chunk
in_front front chunk = front ∷ gap (size_of chunk - size_of front)

-- the chunk made free
abbrev pub freed : Chunk → Chunk
freed chunk = free (size_of chunk)

-- with another lock count, if it is movable
abbrev pub with_lock : ℕ → Chunk → Chunk
with_lock lock (free size) = free size
with_lock lock (movable bytes count owner slot) = movable bytes lock owner slot
with_lock lock (fixed bytes owner) = fixed bytes owner

-- with another owner, if it is live
abbrev pub with_owner : ℕ → Chunk → Chunk
with_owner owner (free size) = free size
with_owner owner (movable bytes lock holder slot) = movable bytes lock owner slot
with_owner owner (fixed bytes holder) = fixed bytes owner

-- with bytes written over its own, from an offset within them on, if it is live
abbrev pub with_bytes : ℕ → List ℕ → Chunk → Chunk
with_bytes at part (free size) = free size
with_bytes at part (movable bytes lock owner slot) = movable (overwritten bytes at part) lock owner slot
with_bytes at part (fixed bytes owner) = fixed (overwritten bytes at part) owner

-- some chunks, with each chunk of an owner made free
abbrev pub owned_freed : ℕ → List Chunk → List Chunk
owned_freed owner [] = []
owned_freed owner (chunk ∷ chunks) = (if is_owned_by owner chunk then freed chunk else chunk) ∷ owned_freed owner chunks

-- ---- where free chunks are

-- The bytes from one offset up to another, at least a header's, are those of free chunks. The last
-- of these chunks ends at the second offset.
pub record FreeUpTo (image : List ℕ) (at end : ℕ) : Type 0 where
  pub before : List Chunk
  pub run : List Chunk
  pub after : List Chunk
  pub chunks : chunks_of image ≡ before ++ (run ++ after)
  pub all_free : AllFree run
  pub from : area_start image + total before ≤ at
  pub to : area_start image + total before + total run ≡ end
  pub least : at + 8 ≤ end

-- A run of neighbouring free chunks begins at an offset, and its first chunks take `size` bytes. No
-- free chunk comes right before the run: in the layout it is a chunk of its own.
pub record IsRoom (image : List ℕ) (at size : ℕ) : Type 0 where
  pub before : List Chunk
  pub run : List Chunk
  pub after : List Chunk
  pub chunks : chunks_of image ≡ before ++ (run ++ after)
  pub all_free : AllFree run
  pub there : at ≡ area_start image + total before
  pub sums : size ≡ total run
  pub front : layout_of image ≡ merged before ++ merged (run ++ after)

-- Room for a chunk: a chunk begins at an offset, and from there on neighbouring free chunks take
-- `size` bytes. A free chunk may come right before them.
pub record IsSpot (image : List ℕ) (at size : ℕ) : Type 0 where
  pub before : List Chunk
  pub run : List Chunk
  pub after : List Chunk
  pub chunks : chunks_of image ≡ before ++ (run ++ after)
  pub all_free : AllFree run
  pub there : at ≡ area_start image + total before
  pub sums : size ≡ total run

-- a chunk is at the start of the room, the rest of the room is free, and all else is as before
abbrev pub Claims : List ℕ → List ℕ → ℕ → ℕ → Chunk → Type 0
Claims old new at room chunk = (r : IsSpot old at room) → Becomes old new (r.before ++ ((chunk ∷ gap (room - size_of chunk)) ++ r.after))

-- ---- the first words of free chunks

-- a first word of a free chunk in which every bit but the free one and those of the size is zero
abbrev pub IsPlain : ℕ → Type 0
IsPlain word = word ≡ 2 ^ 31 + word % 2 ^ 24

-- a chunk is free, and begins at an offset
abbrev pub IsFreeAt : ℕ → ℕ → Chunk → Type 0
IsFreeAt there at (free size) = at ≡ there
IsFreeAt there at (movable bytes lock owner slot) = ⊥
IsFreeAt there at (fixed bytes owner) = ⊥

-- a free chunk of the image begins at an offset
abbrev pub BeginsFree : List ℕ → ℕ → Type 0
BeginsFree image there = AnyPlaced (IsFreeAt there) (area_start image) (chunks_of image)

-- Every free chunk of the new image has a plain first word, or began at that offset in the old one
-- with the same first word. So each header of a free chunk that was written in between is plain.
abbrev pub WritesPlain : List ℕ → List ℕ → Type 0
WritesPlain old new = (at : ℕ) → BeginsFree new at → IsPlain (u32_at new at) ⊎ (BeginsFree old at × (u32_at new at ≡ u32_at old at))
