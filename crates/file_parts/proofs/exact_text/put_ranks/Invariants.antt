-- The loop of `put_ranks` keeps its invariant: what is written from here on completes the lines.
use Rattle.file_parts.proofs.AllWords.{Bool, drop, Writing, Writes, order_lines}
use Rattle.file_parts.proofs.exact_text.put_ranks.Given as goal

abbrev pub invariant-loop-rank : goal.invariant-loop-rank
invariant-loop-rank g l = (new : Writing g.row.W.Denot) (ok : Bool)
    → Writes g.W.Write.contents l.out new (order_lines (drop l.rank-index l.ranks)) ok
    → Writes g.W.Write.contents l.fn.out new (order_lines l.ranks) ok
