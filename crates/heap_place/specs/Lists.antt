-- The lists of free chunks, one for each class of sizes: the chain from each head, and the changes
-- that keep it.
use Rattle.std.specs.Prelude.{◌≡◌, ◌≢◌, ◌<◌, ◌≤◌, ◌+◌, ◌-◌, ◌++◌, ◌∷◌, ◌/◌, ◌^◌, ◌⊎◌, ℕ, zero, suc, List, length, slice_index, slice_set}
use Rattle.heap_model.specs.Bytes.{u32_at}
use Rattle.heap_model.specs.Chunk.{Chunk, free, total}
use Rattle.heap_model.specs.Slots.{area_start}
use Rattle.heap_model.specs.Reading.{size_field, chunks_of}
use Rattle.heap_model.specs.Placing.{SameFrame}
use Rattle.heap_model.specs.Layout.{BeginsFree, Becomes, gap, IsSpot, WritesPlain}

-- the number of classes
abbrev pub class_count : ℕ
class_count = 21

-- A size is of a class: an eighth of it is at least 2 to the power of the class, and less than
-- twice that power.
pub record IsOfClass (class size : ℕ) : Type 0 where
  pub low : 2 ^ class ≤ size / 8
  pub high : size / 8 < 2 ^ (class + 1)

-- a free chunk of a class begins at `at`
pub record IsFreeOf (image : List ℕ) (class at : ℕ) : Type 0 where
  pub begins : BeginsFree image at
  pub of_class : IsOfClass class (size_field (u32_at image at))
  pub positive : 0 < at

-- the second word of the chunk at an offset: in a listed free chunk, its link
abbrev pub second_of : List ℕ → ℕ → ℕ
second_of image at = u32_at image (at + 4)

-- A chain of a given number of free chunks of one class begins at an offset. The second word of
-- each is the offset of the next, and that of the last is 0. The empty chain begins at 0.
abbrev pub Chain : List ℕ → ℕ → ℕ → ℕ → Type 0
Chain image class zero at = at ≡ 0
Chain image class (suc count) at = IsFreeOf image class at × Chain image class count (second_of image at)

-- `P` is true of the offset of each chunk of a chain
abbrev pub OnChain : (ℕ → Type 0) → List ℕ → ℕ → ℕ → Type 0
OnChain P image zero at = Unit {0}
OnChain P image (suc count) at = P at × OnChain P image count (second_of image at)

-- `head` begins a chain of free chunks of a class, which ends with a link of 0, and `P` is true of
-- the offset of each
pub record IsList (P : ℕ → Type 0) (image : List ℕ) (class head : ℕ) : Type 0 where
  pub count : ℕ
  pub chain : Chain image class count head
  pub each : OnChain P image count head

-- there is a head for each class, from which a chain of its free chunks leads, and `P` is true of
-- the offset of each of them
pub record AreLists (P : ℕ → Type 0) (image heads : List ℕ) : Type 0 where
  pub count : length heads ≡ class_count
  pub lists : (class : ℕ) → class < class_count → IsList P image class (slice_index heads class)

-- every offset
abbrev pub Any : ℕ → Type 0
Any at = Unit {0}

-- every offset but `here`
abbrev pub ButAt : ℕ → ℕ → Type 0
ButAt here at = at ≢ here

-- a header at `at` lies before the `size` bytes at `start`, or after them
abbrev pub Outside : ℕ → ℕ → ℕ → Type 0
Outside start size at = (at + 8 ≤ start) ⊎ (start + size ≤ at)

-- each head begins a list of free chunks of its class
abbrev pub HasLists : List ℕ → List ℕ → Type 0
HasLists image heads = AreLists Any image heads

-- The free chunk at `at` is still free, and both of its words are as they were.
pub record KeepsOne (old new : List ℕ) (at : ℕ) : Type 0 where
  pub begins : BeginsFree new at
  pub first : u32_at new at ≡ u32_at old at
  pub second : second_of new at ≡ second_of old at

-- each free chunk at an offset of which `P` is true is still free, and both of its words are as
-- they were
abbrev pub KeepsFree : (ℕ → Type 0) → List ℕ → List ℕ → Type 0
KeepsFree P old new = (at : ℕ) → P at → BeginsFree old at → KeepsOne old new at

-- a free chunk of `size` bytes is at `at`
pub record IsFreeChunk (image : List ℕ) (at size : ℕ) : Type 0 where
  pub before : List Chunk
  pub after : List Chunk
  pub chunks : chunks_of image ≡ before ++ free size ∷ after
  pub there : at ≡ area_start image + total before

-- The second word of the free chunk at `at` became `word`. The frame, the chunks, and all other
-- header words of free chunks are as they were.
pub record Links (old new : List ℕ) (at word : ℕ) : Type 0 where
  pub frame : SameFrame old new
  pub chunks : chunks_of new ≡ chunks_of old
  pub firsts : (there : ℕ) → BeginsFree old there → u32_at new there ≡ u32_at old there
  pub keeps : KeepsFree (ButAt at) old new
  pub second : second_of new at ≡ word

-- The chunks and the frame are as they were, and each header of a free chunk that was written is
-- plain.
pub record SameChunks (old new : List ℕ) : Type 0 where
  pub frame : SameFrame old new
  pub chunks : chunks_of new ≡ chunks_of old
  pub plain : WritesPlain old new

-- A free chunk was put at the head of its list.
pub record Pushes (old new heads after : List ℕ) (at : ℕ) : Type 0 where
  pub class : ℕ
  pub below : class < class_count
  pub links : Links old new at (slice_index heads class)
  pub free : IsFreeOf new class at
  pub is_head : after ≡ slice_set heads class at

-- the chunks of a room are now one free chunk of `size` bytes, and one of what is left of them
abbrev pub CutsRoom : List ℕ → List ℕ → ℕ → ℕ → ℕ → Type 0
CutsRoom old new at room size = (r : IsSpot old at room) → chunks_of new ≡ r.before ++ (free size ∷ (gap (room - size) ++ r.after))

-- the free chunk at `at` was replaced by `chunk`
abbrev pub Fills : List ℕ → List ℕ → ℕ → ℕ → Chunk → Type 0
Fills old new at size chunk = (f : IsFreeChunk old at size) → Becomes old new (f.before ++ chunk ∷ f.after)
