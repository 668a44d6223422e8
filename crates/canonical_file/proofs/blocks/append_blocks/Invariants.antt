-- The loop of `append_blocks` keeps its invariant: the blocks that are left complete the text, and
-- there is room for them.
use Rattle.std.proofs.Common.{◌≡◌, ◌+◌, ◌≤◌, ◌++◌, length, drop, vec_len, vec_capacity}
use Rattle.canonical_file.specs.Canonical.{blocks_at}
use Rattle.canonical_file.proofs.blocks.append_blocks.Given as goal

-- the blocks that are left make the text whole, and there is room for them
abbrev pub invariant-loop-index : goal.invariant-loop-index
invariant-loop-index l = record {
  text : l.bytes.items ++ blocks_at l.source (drop l.index l.blocks)
      ≡ l.fn.bytes.items ++ blocks_at l.source l.blocks;
  len : vec_len l.bytes + length (blocks_at l.source (drop l.index l.blocks))
      ≡ vec_len l.fn.bytes + length (blocks_at l.source l.blocks);
  capacity : vec_capacity l.fn.bytes ≤ vec_capacity l.bytes;
}
