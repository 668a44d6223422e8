-- The loop of `free_pieces` keeps its invariant: the pieces are those of the chunks that were
-- passed.
use Rattle.heap_map.proofs.Laws.{◌-◌, length, HasPassed, HaveMet}
use Rattle.heap_map.proofs.pieces.free_pieces.Given as goal

abbrev pub invariant-loop-at : goal.invariant-loop-at
invariant-loop-at l = HasPassed l.region.bytes (HaveMet l.pieces) l.at

abbrev pub decreases-loop-at : goal.decreases-loop-at
decreases-loop-at l = length l.region.bytes - l.at
