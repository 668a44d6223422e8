-- The loop of `put_blocks` keeps its invariant: what is written from here on completes the blocks.
use Rattle.file_parts.proofs.AllLaws.{Bool, drop, Writing, Writes, exact_block, exact_blocks, blocks_of}
use Rattle.file_parts.proofs.exact_writing.put_blocks.Given as goal

abbrev pub invariant-loop-index : goal.invariant-loop-index
invariant-loop-index g l = (new : Writing g.row.W.Denot) (ok : Bool)
    → Writes g.W.Write.contents l.out new (blocks_of (exact_block (g.S.ExactSource.exact l.source))
    (drop l.index (g.S.ExactSource.exact l.source).order)) ok
    → Writes g.W.Write.contents l.fn.out new (exact_blocks (g.S.ExactSource.exact l.source)) ok
