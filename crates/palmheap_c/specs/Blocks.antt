-- The places of the blocks of a file, for C.
use Rattle.std.specs.Prelude.{◌≡◌, ◌<◌, ◌≤◌, ◌⊎◌, ℕ, List, Option, Some, None, false, true, if◌then◌else◌, All, length, map, take, drop, slice_range}
use Rattle.heap_model.specs.Files.{HasNoFault, blocks_in}
use Rattle.pdb_format.specs.declared.blocks.Block as files
use Rattle.pdb_format.specs.Blocks.{places_in}
use Rattle.palmheap_c.specs.declared.answers.Answer.{Answer}
use Rattle.palmheap_c.specs.declared.blocks.Block.{Block}
use Rattle.palmheap_c.specs.Answers.{IsFileFault, IsMemoryAnswer, no_fault, no_room}

-- the bytes of a block of a file, if there is one
abbrev pub found : List ℕ → Block → Option (List ℕ)
found file block = if block.is_there then Some (slice_range file block.start block.end) else None

-- the place of a block, if the file has the block
abbrev pub placed : Option files.Block → Block
placed None = record { start = 0; end = 0; is_there = false }
placed (Some block) = record { start = block.start; end = block.end; is_there = true }

-- the place lies within the first `size` bytes
abbrev pub IsInside : ℕ → Block → Type 0
IsInside size block = (block.start ≤ block.end) × (block.end ≤ size)

-- The file has no fault. The first `count` of the new places are those of its blocks: they lie
-- within the file and have the blocks' bytes. The other places are unchanged.
pub record AreBlocks (file : List ℕ) (old new : List Block) (count : ℕ) : Type 0 where
  pub good : HasNoFault file
  pub counted : count ≡ length (blocks_in file)
  pub places : take count new ≡ map placed (places_in file)
  pub are : map (found file) (take count new) ≡ blocks_in file
  pub inside : All (IsInside (length file)) (take count new)
  pub others : drop count new ≡ drop count old

-- the file has no fault, and there are too few places for its blocks
pub record HasMoreBlocks (file : List ℕ) (old new : List Block) (count : ℕ) : Type 0 where
  pub good : HasNoFault file
  pub counted : count ≡ length (blocks_in file)
  pub more : length old < count
  pub same : new ≡ old

-- The result of the search for the blocks of a file. There are three cases:
-- - The blocks were written.
-- - There are too few places for them, and the places are unchanged.
-- - The file has a fault, or an allocation failed. The places and the count are unchanged.
abbrev pub IsBlocksAnswer : List ℕ → (old new : List Block) → (was count : ℕ) → Answer → Type 0
IsBlocksAnswer file old new was count found =
    ((found ≡ no_fault) × AreBlocks file old new count)
    ⊎ (((found ≡ no_room) × HasMoreBlocks file old new count)
    ⊎ ((IsMemoryAnswer found ⊎ IsFileFault file found) × (new ≡ old) × (count ≡ was)))
