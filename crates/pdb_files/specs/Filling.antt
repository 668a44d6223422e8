-- Chunks of zeros, which are filled with the blocks of a file one after the other.
use Rattle.std.specs.Prelude.{◌≡◌, ◌≤◌, ◌<◌, ℕ, List, length, replicate, slice_index, slice_index_or, Option, Some, None}
use Rattle.heap_model.specs.Chunk.{data_owner}
use Rattle.heap_model.specs.Lists.{times}
use Rattle.heap_model.specs.Slots.{tables_of}
use Rattle.heap_model.specs.Heap.{directory_of}
use Rattle.heap_model.specs.Meaning.{ChunkMap}
use Rattle.heap_model.specs.Space.{MovesNothing}
use Rattle.heap_model.specs.Store.{Accepted, store_of}
use Rattle.heap_model.specs.EntrySteps.{MakesNone}

-- The name stands for a chunk of data that has the bytes of the block and no lock. If there is no
-- block, the name is 0.
abbrev pub HasBlock : ChunkMap → Option (List ℕ) → ℕ → Type 0
HasBlock map None name = name ≡ 0
HasBlock map (Some bytes) name = (0 < name) × (map name ≡ Some (record { bytes = bytes; lock = 0; owner = data_owner }))

-- zeros instead of a block, as many as it has bytes
abbrev pub zeros_for : Option (List ℕ) → Option (List ℕ)
zeros_for None = None
zeros_for (Some bytes) = Some (replicate (length bytes) 0)

-- The first `count` of these names stand for their blocks. The others still stand for zeros.
pub record AreFilled (map : ChunkMap) (blocks : List (Option (List ℕ))) (names : List ℕ) (count : ℕ) : Type 0 where
  pub filled : (index : ℕ) → index < count → HasBlock map (slice_index_or blocks index None) (slice_index names index)
  pub zeros : (index : ℕ) → count ≤ index → index < length names → HasBlock map (zeros_for (slice_index_or blocks index None)) (slice_index names index)

-- no name except 0 is twice in the list
abbrev pub AreOnce : List ℕ → Type 0
AreOnce names = (name : ℕ) → 0 < name → times name names ≤ 1

-- The image is still accepted and has the same databases. Each name that isn't in the list stands
-- for what it stood for before. The image has the same length, the same tables and the same
-- directory word. Nothing has moved, and no name is new.
pub record Refills (old new names : List ℕ) : Type 0 where
  pub accepted : Accepted new
  pub databases : (store_of new).databases ≡ (store_of old).databases
  pub others : (name : ℕ) → (0 < name → times name names ≡ 0) → (store_of new).map name ≡ (store_of old).map name
  pub len : length new ≡ length old
  pub tables : tables_of new ≡ tables_of old
  pub directory : directory_of new ≡ directory_of old
  pub unmoved : MovesNothing old new
  pub none_made : MakesNone old new
