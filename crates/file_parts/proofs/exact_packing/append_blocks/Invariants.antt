-- The loop of `append_blocks` keeps its invariant: the blocks of the ranks so far are appended.
use Rattle.file_parts.proofs.AllWords.{◌≡◌, ◌++◌, take, flat_map, block_bytes, exact_block, exact_packed}
use Rattle.file_parts.proofs.exact_packing.append_blocks.Given as goal

abbrev pub invariant-loop-rank : goal.invariant-loop-rank
invariant-loop-rank g l = l.bytes.items ≡ l.fn.bytes.items ++ flat_map (λ rank. block_bytes
    (exact_block (exact_packed l.exact l.parts) rank)) (take l.rank-index l.exact.ranks.items)
