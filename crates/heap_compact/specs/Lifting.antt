-- Chunks are lifted over the free chunk after them, which is before them afterwards. Their bytes
-- move up in one copy, and then each movable one is mended in turn. In between the same chunks tile
-- the image. Those not mended yet name slots that lie higher by as many bytes as the chunks have
-- moved.
use Rattle.std.specs.Prelude.{◌≡◌, ◌≤◌, ◌<◌, ◌+◌, ◌%◌, ◌^◌, ◌++◌, ◌⊎◌, ℕ, List, [], ◌∷◌, length}
use Rattle.heap_model.specs.Bytes.{u32_at}
use Rattle.heap_model.specs.Chunk.{Chunk, free, movable, fixed, total}
use Rattle.heap_model.specs.Slots.{IsSlot, slots_of, tables_of, area_start}
use Rattle.heap_model.specs.Placed.{EveryPlaced}
use Rattle.heap_model.specs.Heap.{Tiles, IsHeap, directory_of}
use Rattle.heap_model.specs.Reading.{chunks_of}
use Rattle.heap_model.specs.Space.{NoneStays}
use Rattle.heap_model.specs.Packing.{lives}
use Rattle.heap_compact.specs.Packs.{BecomesExactly}

-- a chunk as its bytes read after a move up by `by` bytes: a movable one names a slot that lies
-- `by` bytes higher
abbrev pub carried : ℕ → Chunk → Chunk
carried by (free size) = free size
carried by (movable bytes lock owner slot) = movable bytes lock owner ((slot + by) % 2 ^ 25)
carried by (fixed bytes owner) = fixed bytes owner

-- each of some chunks as its bytes read after a move up by `by` bytes
abbrev pub all_carried : ℕ → List Chunk → List Chunk
all_carried by [] = []
all_carried by (chunk ∷ chunks) = carried by chunk ∷ all_carried by chunks

-- some chunks of a heap are lifted by `gap` bytes: the heap as it was, and its chunks before them and
-- after the free one that follows them
pub record Lift (gap : ℕ) : Type 0 where
  pub old : List ℕ
  pub before : List Chunk
  pub after : List Chunk

-- The chunks `done` and `rest` of a heap are lifted over a free chunk of `gap` bytes. The bytes of
-- all have been moved up, `done` are mended, and the first of `rest` now begins at `at`. A slot
-- that contained the place of a mended chunk contains its new one; the others are as they were. The
-- first word of the free chunk before them is plain. The first words of the chunks before and after
-- are as they were.
pub record Lifting {gap : ℕ} (lift : Lift gap) (image : List ℕ) (done rest : List Chunk) (at : ℕ) : Type 0 where
  pub heap : IsHeap lift.old (lift.before ++ (done ++ (rest ++ free gap ∷ lift.after)))
  pub there : at ≡ area_start lift.old + total lift.before + gap + total done
  pub tiles : Tiles image (lift.before ++ free gap ∷ (done ++ (all_carried gap rest ++ lift.after)))
  pub len : length image ≡ length lift.old
  pub tables : tables_of image ≡ tables_of lift.old
  pub slots : slots_of image ≡ slots_of lift.old
  pub directory : directory_of image ≡ directory_of lift.old
  pub lifted : (slot : ℕ) → IsSlot lift.old slot → area_start lift.old + total lift.before < u32_at lift.old slot → u32_at lift.old slot + gap ≤ at
      → u32_at image slot ≡ u32_at lift.old slot + gap
  pub kept : (slot : ℕ) → IsSlot lift.old slot → (u32_at lift.old slot ≤ area_start lift.old + total lift.before) ⊎ (at < u32_at lift.old slot + gap)
      → u32_at image slot ≡ u32_at lift.old slot
  pub plain : u32_at image (area_start lift.old + total lift.before) ≡ 2 ^ 31 + gap
  pub front : EveryPlaced (λ there chunk. u32_at image there ≡ u32_at lift.old there) (area_start lift.old) lift.before
  pub back : EveryPlaced (λ there chunk. u32_at image there ≡ u32_at lift.old there) (at + total rest) lift.after

-- some chunks are being lifted, and the next chunk to mend begins at `at`
pub record IsCarried (image : List ℕ) (gap at : ℕ) : Type 0 where
  pub lift : Lift gap
  pub done : List Chunk
  pub chunk : Chunk
  pub rest : List Chunk
  pub lifting : Lifting lift image done (chunk ∷ rest) at

-- the chunk at `at` has been mended, and the next one begins at `next`
abbrev pub MendsOne : List ℕ → List ℕ → ℕ → ℕ → ℕ → Type 0
MendsOne image new gap at next =
    (lift : Lift gap) (done : List Chunk) (chunk : Chunk) (rest : List Chunk) → Lifting lift image done (chunk ∷ rest) at → Lifting lift new (done ++ chunk ∷ []) rest next

-- some chunks are being lifted, and those from `at` up to `end` are not mended yet
pub record AreCarried (image : List ℕ) (gap at end : ℕ) : Type 0 where
  pub lift : Lift gap
  pub done : List Chunk
  pub rest : List Chunk
  pub lifting : Lifting lift image done rest at
  pub ends : end ≡ at + total rest

-- the chunks from `at` up to `end` have been mended
abbrev pub MendsAll : List ℕ → List ℕ → ℕ → ℕ → ℕ → Type 0
MendsAll image new gap at end =
    (lift : Lift gap) (done rest : List Chunk) → Lifting lift image done rest at → end ≡ at + total rest → Lifting lift new (done ++ rest) [] end

-- the chunks `mid` of an image are live, and none of them stays; they fill it from `start` up to
-- `end`, and after them is a free chunk of `gap` bytes
pub record HasFreeBehind (image : List ℕ) (start end gap : ℕ) : Type 0 where
  pub before : List Chunk
  pub mid : List Chunk
  pub after : List Chunk
  pub chunks : chunks_of image ≡ before ++ (mid ++ free gap ∷ after)
  pub live : lives mid ≡ mid
  pub loose : NoneStays mid
  pub from : start ≡ area_start image + total before
  pub to : end ≡ start + total mid

-- the chunks from `start` up to `end` have been lifted over the free chunk of `gap` bytes after
-- them
abbrev pub Lifts : List ℕ → List ℕ → ℕ → ℕ → ℕ → Type 0
Lifts old new start end gap = (b : HasFreeBehind old start end gap) → BecomesExactly old new (b.before ++ free gap ∷ (b.mid ++ b.after))

-- of the chunks `rest`, which were not mended, the first ones, up to `at`, are mended now
pub record MendedUpTo {gap : ℕ} (lift : Lift gap) (image : List ℕ) (done rest : List Chunk) (at end : ℕ) : Type 0 where
  pub front : List Chunk
  pub back : List Chunk
  pub parts : rest ≡ front ++ back
  pub lifting : Lifting lift image (done ++ front) back at
  pub ends : end ≡ at + total back

-- the walk from `start` up to `end` is at `at`
abbrev pub Walks : List ℕ → List ℕ → ℕ → ℕ → ℕ → ℕ → Type 0
Walks first image gap start at end =
    (lift : Lift gap) (done rest : List Chunk) → Lifting lift first done rest start → end ≡ start + total rest → MendedUpTo lift image done rest at end
