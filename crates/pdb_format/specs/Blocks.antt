-- The places of the blocks of a file.
use Rattle.std.specs.Prelude.{◌≤◌, ◌-◌, ℕ, zero, suc, List, length, slice_index, slice_range, Option, Some, None}
use Rattle.heap_model.specs.Lists.{numbered}
use Rattle.heap_model.specs.Files.{offsets_in, block_end}
use Rattle.pdb_format.specs.declared.blocks.Block.{Block}

-- the bytes of a block of a file, if the file has the block
abbrev pub bytes_at : List ℕ → Option Block → Option (List ℕ)
bytes_at file None = None
bytes_at file (Some block) = Some (slice_range file block.start block.end)

-- the place of the block of a rank that begins at an offset, if that isn't 0
abbrev pub place_at : List ℕ → ℕ → ℕ → Option Block
place_at file rank zero = None
place_at file rank (suc at) = Some (record { start = suc at; end = block_end file rank (suc at) })

-- the places of the blocks by their rank
abbrev pub places_in : List ℕ → List (Option Block)
places_in file = numbered (λ rank. place_at file rank (slice_index (offsets_in file) rank)) (length (offsets_in file))

-- the block, if there is one, lies within the first `length` bytes
abbrev pub IsBlockWithin : ℕ → Option Block → Type 0
IsBlockWithin length None = Unit {0}
IsBlockWithin length (Some block) = (block.start ≤ block.end) × (block.end ≤ length)

-- the size of the block in bytes, if there is one
abbrev pub size_within : Option Block → Option ℕ
size_within None = None
size_within (Some block) = Some (block.end - block.start)

-- the size of the block in bytes; 0 if there is none
abbrev pub length_within : Option Block → ℕ
length_within None = 0
length_within (Some block) = block.end - block.start
