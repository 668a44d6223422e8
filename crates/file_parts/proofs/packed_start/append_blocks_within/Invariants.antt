-- The loop of `append_blocks_within` keeps its invariant: with the blocks that are left, the first
-- bytes are those of the whole.
use Rattle.std.proofs.Common.{◌≡◌, ◌≤◌, ◌++◌, length, take}
use Rattle.file_parts.proofs.PackedFiles.{blocks_on}
use Rattle.file_parts.proofs.packed_start.append_blocks_within.Given as goal

abbrev pub invariant-loop-rank : goal.invariant-loop-rank
invariant-loop-rank g l = record {
  text : take l.most (l.bytes.items ++ blocks_on l.listed l.parts l.rank)
      ≡ take l.most (l.fn.bytes.items ++ blocks_on l.listed l.parts 0);
  room : length l.bytes.items ≤ l.most;
}
