-- The loop of `strips_of` keeps its invariant: the strips show the chunks that were passed.
use Rattle.heap_svg.proofs.Laws.{◌-◌, length, HasPassed, Shown}
use Rattle.heap_svg.proofs.strips.strips_of.Given as goal

abbrev pub invariant-loop-at : goal.invariant-loop-at
invariant-loop-at g l = HasPassed l.region.bytes (Shown l.region.bytes l.thin l.strips) l.at

abbrev pub decreases-loop-at : goal.decreases-loop-at
decreases-loop-at g l = length l.region.bytes - l.at
