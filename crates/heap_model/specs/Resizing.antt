-- The layout after a chunk has changed its length: in its place, or elsewhere.
use Rattle.std.specs.Prelude.{◌+◌, ◌-◌, ◌++◌, ◌==◌, if◌then◌else◌, ℕ, List, [], ◌∷◌}
use Rattle.heap_model.specs.Bytes.{sized_to}
use Rattle.heap_model.specs.Chunk.{Chunk, free, movable, fixed, size_of}
use Rattle.heap_model.specs.Slots.{area_start}
use Rattle.heap_model.specs.Space.{free_front}
use Rattle.heap_model.specs.Layout.{layout_of, Becomes, Exchanges, gap, in_front, freed, IsSpot}

-- The chunk with `count` bytes, if it is live: the first ones of its own, or all of its own and
-- then zeros.
abbrev pub with_length : ℕ → Chunk → Chunk
with_length count (free size) = free size
with_length count (movable bytes lock owner slot) = movable (sized_to bytes count) lock owner slot
with_length count (fixed bytes owner) = fixed (sized_to bytes count) owner

-- ---- in its place

-- a chunk that takes no more bytes than before, and the rest as a free chunk
abbrev pub shrunk : ℕ → Chunk → List Chunk
shrunk count chunk = in_front (with_length count chunk) chunk

abbrev pub Shrinks : List ℕ → List ℕ → ℕ → ℕ → Type 0
Shrinks old new there count = Exchanges old new there (shrunk count)

-- the chunks without the free ones with which they begin
abbrev pub behind_front : List Chunk → List Chunk
behind_front [] = []
behind_front (free size ∷ chunks) = behind_front chunks
behind_front (movable bytes lock owner slot ∷ chunks) = movable bytes lock owner slot ∷ chunks
behind_front (fixed bytes owner ∷ chunks) = fixed bytes owner ∷ chunks

-- The chunks, of which the first begins at `at`, with another length for the chunk at `there`. It
-- takes its own bytes and those of the free chunks directly after it. What it does not need is left
-- free.
unfoldable pub grown : ℕ → ℕ → ℕ → List Chunk → List Chunk
grown there count at [] = []
grown there count at (chunk ∷ chunks) =
    if at == there then with_length count chunk ∷ (gap (size_of chunk + free_front chunks - size_of (with_length count chunk)) ++ behind_front chunks)
    else chunk ∷ grown there count (at + size_of chunk) chunks

abbrev pub GrowsInPlace : List ℕ → List ℕ → ℕ → ℕ → Type 0
GrowsInPlace old new there count = Becomes old new (grown there count (area_start old) (layout_of old))

-- ---- elsewhere

-- The chunks, of which the first begins at `at`. The chunk at `here` is made free, and `moved` is
-- put at the start of the free chunk at `there`.
unfoldable pub relocated : ℕ → ℕ → Chunk → ℕ → List Chunk → List Chunk
relocated here there moved at [] = []
relocated here there moved at (chunk ∷ chunks) = (if at == here then freed chunk ∷ [] else if at == there then in_front moved chunk else chunk ∷ []) ++ relocated here there moved (at + size_of chunk) chunks

-- A chunk moves from the offset `here` to the start of the room at `there`, and becomes `moved`.
-- The free chunks of the room count as one.
abbrev pub Relocates : List ℕ → List ℕ → ℕ → ℕ → ℕ → Chunk → Type 0
Relocates old new here there room moved = (r : IsSpot old there room) → Becomes old new (relocated here there moved (area_start old) (r.before ++ free room ∷ r.after))
