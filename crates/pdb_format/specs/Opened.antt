-- Files that are opened: they have no fault, and the places of their blocks are known.
use Rattle.std.specs.Prelude.{◌≡◌, ◌≤◌, ◌+◌, ◌-◌, ◌^◌, ℕ, List, length, map, Option, All}
use Rattle.std.specs.List.{sum_by}
use Rattle.heap_model.specs.Files.{HasNoFault, blocks_in, entries_end}
use Rattle.pdb_format.specs.Blocks.{bytes_at, places_in, IsBlockWithin, length_within}
use Rattle.pdb_format.specs.declared.blocks.Block.{Block}

-- the most bytes that a file may have: its offsets are numbers of 32 bits
abbrev pub most_file_bytes : ℕ
most_file_bytes = 2 ^ 32 - 1

-- The file has no fault, and these are the places of its blocks. No byte after the entries is in two
-- blocks, so the blocks together have at most as many bytes as there are after the entries.
pub record HasPlaces (file : List ℕ) (blocks : List (Option Block)) : Type 0 where
  pub good : HasNoFault file
  pub places : blocks ≡ places_in file
  pub are : map (bytes_at file) blocks ≡ blocks_in file
  pub within : All (IsBlockWithin (length file)) blocks
  pub total : entries_end file + sum_by length_within blocks ≤ length file
