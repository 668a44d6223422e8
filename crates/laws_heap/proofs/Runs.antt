-- The chunks that are read from an offset on, and a walk over them.
use Rattle.laws_heap.proofs.Words.{◌≡◌, ℕ, zero, suc, ◌+◌, ◌-◌, ◌<◌, ◌≤◌, List, [], ◌∷◌, length, Option, Some, None, refl, ap, ◌∙◌, arith, ◌++◌, Chunk, size_of, total, Spelled, SpelledAll, area_start, Tiles, chunk_at, first_then, chunks_within, chunks_from, chunks_of}
use Rattle.laws_heap.proofs.Chunks.{Spelled-size, SpelledAll-rest, SpelledAll-unique}
use Rattle.laws_heap.proofs.Shapes.{chunk_at-spelled, chunk_at-stands, chunk_at-none}

-- what is read moves on, within the image
read_size : (image : List ℕ) (at : ℕ) (c : Chunk) → chunk_at image at ≡ Some c
    → (8 ≤ size_of c) × (at + size_of c ≤ length image)
read_size image at c e = let s = Spelled-size _ at c (chunk_at-stands image at c e) in (s.0, s.1)

then_same : (at : ℕ) (f g : ℕ → List Chunk) (r : Option Chunk)
    → ((c : Chunk) → r ≡ Some c → f (at + size_of c) ≡ g (at + size_of c))
    → first_then f at r ≡ first_then g at r
then_same at f g None same = refl
then_same at f g (Some c) same = ap (λ (cs : List Chunk). c ∷ cs) (same c refl)

-- nothing is read at the end
none_beyond : (image : List ℕ) (at : ℕ) → length image ≤ at → chunk_at image at ≡ None
none_beyond image at beyond =
    chunk_at-none image at (λ c s. let size = Spelled-size image at c s in omega arith)

-- it doesn't matter how many more chunks there might be
enough : (image : List ℕ) (n m at : ℕ) → length image ≤ at + n → length image ≤ at + m
    → chunks_within n image at ≡ chunks_within m image at
enough image zero zero at a b = refl
enough image zero (suc m) at a b = rw (none_beyond image at (omega arith)) refl
enough image (suc n) zero at a b = rw (none_beyond image at (omega arith)) refl
enough image (suc n) (suc m) at a b =
    then_same at (chunks_within n image) (chunks_within m image) (chunk_at image at)
    (λ c e. let s = read_size image at c e in enough image n m _ (omega arith) (omega arith))

pub chunks_from-none : (image : List ℕ) (at : ℕ) → chunk_at image at ≡ None
    → chunks_from image at ≡ []
unfolding chunks_from
chunks_from-none image at none = empty (length image) where
  empty : (n : ℕ) → chunks_within n image at ≡ []
  empty zero = refl
  empty (suc n) = rw none refl

pub chunks_from-end : (image : List ℕ) (at : ℕ) → length image ≤ at → chunks_from image at ≡ []
chunks_from-end image at beyond = chunks_from-none image at (none_beyond image at beyond)

pub chunks_from-some : (image : List ℕ) (at : ℕ) (c : Chunk) → chunk_at image at ≡ Some c
    → chunks_from image at ≡ c ∷ chunks_from image (at + size_of c)
unfolding chunks_from
chunks_from-some image at c e =
    let s = read_size image at c e in
    let one_more : length image ≡ suc (length image - 1) = omega arith in
    ap (λ (n : ℕ). chunks_within n image at) one_more
    ∙ ap (first_then (chunks_within (length image - 1) image) at) e
    ∙ ap (λ cs. c ∷ cs) (enough image _ (length image) (at + size_of c) (omega arith) (omega arith))

-- chunks that are spelled up to the end are those that are read
pub chunks_from-tiled : (image : List ℕ) (at : ℕ) (cs : List Chunk)
    → SpelledAll image at cs (length image) → chunks_from image at ≡ cs
chunks_from-tiled image at [] s = chunks_from-end image at (omega (arith, s))
chunks_from-tiled image at (c ∷ cs) s =
    chunks_from-some image at c (chunk_at-spelled image at c s.0)
    ∙ ap (λ ds. c ∷ ds) (chunks_from-tiled image (at + size_of c) cs s.1)

-- those that are read are spelled
pub chunks_from-spelled : (image : List ℕ) (at : ℕ)
    → SpelledAll image at (chunks_from image at) (at + total (chunks_from image at))
unfolding chunks_from
chunks_from-spelled image at = spelled (length image) at where
  spelled : (n at : ℕ)
      → SpelledAll image at (chunks_within n image at) (at + total (chunks_within n image at))
  spelled zero at = omega arith
  spelled (suc n) at = by_case (chunk_at image at) refl (spelled n) where
    by_case : (r : Option Chunk) → chunk_at image at ≡ r → ((next : ℕ) → SpelledAll image next
        (chunks_within n image next) (next + total (chunks_within n image next)))
        → SpelledAll image at (first_then (chunks_within n image) at r)
        (at + total (first_then (chunks_within n image) at r))
    by_case None e rest = omega arith
    by_case (Some c) e rest =
        let next : ℕ = at + size_of c in
        let others : List Chunk = chunks_within n image next in
        let end : next + total others ≡ at + (size_of c + total others) = omega arith in
        (chunk_at-stands image at c e, rw end at (rest next))

-- the chunks of an image are those that tile it
-- so without what is said of the head and of tables
pub chunks_of-area : (image : List ℕ) (cs : List Chunk)
    → SpelledAll image (area_start image) cs (length image) → chunks_of image ≡ cs
unfolding chunks_of
chunks_of-area image cs s = chunks_from-tiled image (area_start image) cs s

pub chunks_of-tiled : (image : List ℕ) (cs : List Chunk) → Tiles image cs → chunks_of image ≡ cs
unfolding chunks_of
chunks_of-tiled image cs t = chunks_from-tiled image (area_start image) cs t.area

pub Tiles-unique : (image : List ℕ) (cs ds : List Chunk) → Tiles image cs → Tiles image ds → cs ≡ ds
Tiles-unique image cs ds s t = SpelledAll-unique image _ cs ds (length image) s.area t.area

-- a run of chunks that ends before the image's end, where nothing is spelled, goes on to no end
pub stuck_run : (image : List ℕ) (start at : ℕ) (before cs : List Chunk)
    → SpelledAll image start before at → at < length image → ((c : Chunk) → Spelled image at c → ⊥)
    → SpelledAll image start cs (length image) → ⊥
stuck_run image start at before cs done inside none s =
    let rest = SpelledAll-rest image start before cs at (length image) done s (omega arith) in
    no_more rest.0 rest.2 where
      no_more : (after : List Chunk) → SpelledAll image at after (length image) → ⊥
      no_more [] t = omega (arith, t)
      no_more (c ∷ after) t = none c t.0

-- after the first chunks of an image, before its end, stands a chunk
pub chunk_there : (image : List ℕ) (cs before : List Chunk) (at : ℕ) → Tiles image cs
    → SpelledAll image (area_start image) before at → at < length image
    → (c : Chunk) × Spelled image at c
chunk_there image cs before at t done inside =
    let rest = SpelledAll-rest image _ before cs at (length image) done t.area (omega arith) in
    first rest.0 rest.2 where
      first : (after : List Chunk) → SpelledAll image at after (length image)
          → (c : Chunk) × Spelled image at c
      first [] s = absurd (omega (arith, s))
      first (c ∷ after) s = (c, s.0)

-- the chunks of an image are those that were walked over, and others
pub chunks_after : (image : List ℕ) (cs before : List Chunk) (at : ℕ) → Tiles image cs
    → SpelledAll image (area_start image) before at → at ≤ length image → (after : List Chunk)
    × (chunks_of image ≡ before ++ after) × SpelledAll image at after (length image)
chunks_after image cs before at t done inside =
    let rest = SpelledAll-rest image _ before cs at (length image) done t.area inside in
    (rest.0, chunks_of-tiled image cs t ∙ rest.1, rest.2)
