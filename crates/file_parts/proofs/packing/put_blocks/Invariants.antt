-- The loop of `put_blocks` keeps its invariant: what is written from here on completes the blocks.
use Rattle.file_parts.proofs.AllLaws.{Bool, Writing, Writes, blocks_on}
use Rattle.file_parts.proofs.packing.put_blocks.Given as goal

abbrev pub invariant-loop-rank : goal.invariant-loop-rank
invariant-loop-rank g l = (new : Writing g.row.W.Denot) (ok : Bool)
    → Writes g.W.Write.contents l.out new (blocks_on l.listed l.parts l.rank) ok
    → Writes g.W.Write.contents l.fn.out new (blocks_on l.listed l.parts 0) ok
