-- The loop of `marks_of` keeps its invariant: the marks of the cells before this one are written.
use Rattle.heap_map.proofs.Words.{◌≡◌, numbered, mark_at}
use Rattle.heap_map.proofs.cells.marks_of.Given as goal

abbrev pub invariant-loop-k : goal.invariant-loop-k
invariant-loop-k g l = l.marks.items ≡ numbered (mark_at l.region.bytes) l.k
