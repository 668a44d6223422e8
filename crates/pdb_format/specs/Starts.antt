-- The offsets at which the blocks of a file begin, and the order of the blocks.
use Rattle.std.specs.Prelude.{◌+◌, ◌*◌, ◌^◌, nat_lt, ℕ, Bool, List, length, map, get_or, slice_index, filter}
use Rattle.heap_model.specs.Lists.{numbered}
use Rattle.pdb_format.specs.declared.starts.Start.{Start}

-- the start of a rank
abbrev pub start_of : List ℕ → ℕ → Start
start_of offsets rank = record { at = slice_index offsets rank; rank = rank }

-- the file has the block
abbrev pub is_block_there : Start → Bool
is_block_there start = nat_lt 0 start.at

-- the starts of the blocks that the file has, by rank
abbrev pub starts_in : List ℕ → List Start
starts_in offsets = filter is_block_there (numbered (start_of offsets) (length offsets))

-- blocks are sorted by their offset, and at the same offset by their rank
abbrev pub order : Start → ℕ
order start = start.at * 2 ^ 32 + start.rank

-- the offset at which the block at an index of the starts begins; for the index after the last one,
-- the end of the file
abbrev pub begins : ℕ → List Start → ℕ → ℕ
begins last starts index = get_or (map (λ start. start.at) starts) index last
