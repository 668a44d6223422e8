-- The loop of `put_blocks` keeps its invariant: what is written from here on completes the blocks.
use Rattle.file_parts.proofs.AllLaws.{Bool, drop, Writing, Writes, exact_block, exact_blocks, exact_packed, blocks_of}
use Rattle.file_parts.proofs.exact_packing.put_blocks.Given as goal

abbrev pub invariant-loop-rank : goal.invariant-loop-rank
invariant-loop-rank g l = (new : Writing g.row.W.Denot) (ok : Bool)
    → Writes g.W.Write.contents l.out new (blocks_of (exact_block (exact_packed l.exact l.parts))
    (drop l.rank-index l.exact.ranks.items)) ok
    → Writes g.W.Write.contents l.fn.out new (exact_blocks (exact_packed l.exact l.parts)) ok
