-- A live chunk gets another length in its place.
use Rattle.std.specs.Prelude.{◌≡◌, ◌≤◌, ◌+◌, ◌-◌, ◌++◌, ◌==◌, ◌↔◌, if◌then◌else◌, IsTrue, ℕ, Bool, List, ◌∷◌, length}
use Rattle.heap_model.specs.Chunk.{Chunk, need, fixed_lock, size_of, total, SpelledAll}
use Rattle.heap_model.specs.Slots.{area_start}
use Rattle.heap_model.specs.Reading.{chunks_of}
use Rattle.heap_model.specs.Space.{AllFree, free_front}
use Rattle.heap_model.specs.Layout.{Becomes, gap}
use Rattle.heap_model.specs.Resizing.{with_length}
use Rattle.chunk_format.specs.declared.header.Header.{Header}
use Rattle.chunk_format.specs.declared.header.Header.TheVariants as headers
use Rattle.heap_place.specs.declared.found.Found.{Found}
use Rattle.heap_place.specs.Found.{IsOne}
use Rattle.heap_place.specs.Search.{free_size_at}

-- the header of a found chunk with another length
abbrev pub sized_header : Found → ℕ → Header
sized_header found count = if found.lock == fixed_lock then headers.Fixed count found.owner else headers.Movable count found.lock found.owner found.name.0

-- directly after a found chunk are free ones that take `behind` bytes together
pub record RunBehind (image : List ℕ) (found : Found) (behind : ℕ) : Type 0 where
  pub one : IsOne image found
  pub run : List Chunk
  pub rest : List Chunk
  pub parts : one.finds.after ≡ run ++ rest
  pub all_free : AllFree run
  pub sums : behind ≡ total run

-- the chunk has `count` bytes, from its own bytes and the `behind` bytes of free chunks after it;
-- what is left of them is free
abbrev pub Resizes : List ℕ → List ℕ → Found → ℕ → ℕ → Type 0
Resizes old new found count behind =
    (r : RunBehind old found behind) → Becomes old new (r.one.finds.before ++ ((with_length count r.one.chunk ∷ gap (size_of r.one.chunk + behind - need count)) ++ r.rest))

-- the chunks `after` of an image fill it from `at` up to its end
pub record Ends (image : List ℕ) (at : ℕ) (before after : List Chunk) : Type 0 where
  pub chunks : chunks_of image ≡ before ++ after
  pub there : at ≡ area_start image + total before

-- a chunk of an image begins at `at`, or the image ends there
pub record IsBound (image : List ℕ) (at : ℕ) : Type 0 where
  pub before : List Chunk
  pub after : List Chunk
  pub ends : Ends image at before after

-- the free chunks with which the chunks from `at` on begin take `size` bytes together
abbrev pub BeginsWithFree : List ℕ → ℕ → ℕ → Type 0
BeginsWithFree image at size = (before after : List Chunk) → Ends image at before after → size ≡ free_front after

-- `told` is true exactly if a found chunk and the free ones directly after it have `size` bytes
abbrev pub TellsWhetherInPlace : List ℕ → Found → ℕ → Bool → Type 0
TellsWhetherInPlace image found size told = (f : IsOne image found) → IsTrue told ↔ (size ≤ size_of f.chunk + free_front f.finds.after)

-- The walk over the free chunks that begin at `at` is at `end`.
pub record Running (image : List ℕ) (at end : ℕ) (after : List Chunk) : Type 0 where
  pub rest : List Chunk
  pub spelled : SpelledAll image end rest (length image)
  pub sums : end + free_front rest ≡ at + free_front after

-- the walk is at `end`, and `size` is the size of the free chunk there, or 0 if there is none
pub record RunsUpTo (image : List ℕ) (at end size : ℕ) : Type 0 where
  pub runs : (before after : List Chunk) → Ends image at before after → Running image at end after
  pub there : size ≡ free_size_at image end
  pub behind : at ≤ end
