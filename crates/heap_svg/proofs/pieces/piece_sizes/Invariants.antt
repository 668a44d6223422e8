-- The loop of `piece_sizes` keeps its invariant: the sizes are those of the pieces that were
-- passed.
use Rattle.heap_svg.proofs.Laws.{◌-◌, length, HasPassed, HaveSizes}
use Rattle.heap_svg.proofs.pieces.piece_sizes.Given as goal

abbrev pub invariant-loop-at : goal.invariant-loop-at
invariant-loop-at g l = HasPassed l.region.bytes (HaveSizes l.pieces) l.at

abbrev pub decreases-loop-at : goal.decreases-loop-at
decreases-loop-at g l = length l.region.bytes - l.at
