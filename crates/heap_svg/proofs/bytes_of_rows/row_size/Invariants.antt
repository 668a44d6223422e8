-- The loop of `row_size` keeps its invariant: the size is a power of two from 64 on, and half of it
-- gives too many rows.
use Rattle.heap_svg.proofs.Words.{◌≡◌, ◌≤◌, ◌<◌, ◌*◌, ◌-◌, ℕ, doubled}
use Rattle.heap_svg.proofs.bytes_of_rows.row_size.Given as goal

abbrev pub invariant-loop-line : goal.invariant-loop-line
invariant-loop-line l = record {
  power : (times : ℕ) × (l.line ≡ doubled times);
  low : 64 ≤ l.line;
  least : 64 < l.line → 16 * l.line < l.size;
}

abbrev pub decreases-loop-line : goal.decreases-loop-line
decreases-loop-line l = l.size - l.line
