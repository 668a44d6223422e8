-- The loop of `count_of` keeps its invariant: the count is that of the pieces before this one.
use Rattle.heap_svg.proofs.Words.{◌≡◌, ◌≤◌, take, count_by, is_of_size}
use Rattle.heap_svg.proofs.sizes.count_of.Given as goal

abbrev pub invariant-loop-size : goal.invariant-loop-size
invariant-loop-size l = record {
  same : l.count ≡ count_by (is_of_size l.least) (take l.size-index l.pieces);
  few : l.count ≤ l.size-index;
}
