-- The loop of `paint` keeps its invariant: the cells hold the chunks that were passed.
use Rattle.heap_map.proofs.Words.{◌≡◌, ◌-◌, length, HasPassed, HoldChunks}
use Rattle.heap_map.proofs.cells.paint.Given as goal

abbrev pub invariant-loop-at : goal.invariant-loop-at
invariant-loop-at l = record {
  passed : HasPassed l.region.bytes (HoldChunks l.region.bytes l.cells) l.at;
  size : l.cells.size ≡ l.fn.cells.size;
  count : length l.cells.marks.items ≡ length l.fn.cells.marks.items;
}

abbrev pub decreases-loop-at : goal.decreases-loop-at
decreases-loop-at l = length l.region.bytes - l.at
