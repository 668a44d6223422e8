-- The free bytes of the chunks before `at` are summed.
use Rattle.heap_place.proofs.Words.{◌-◌, length, Passed, HaveFreeBytes}
use Rattle.heap_place.proofs.walks.free_bytes.Given as goal

abbrev pub invariant-loop-at : goal.invariant-loop-at
invariant-loop-at l = Passed l.region.bytes (HaveFreeBytes l.count) l.at

abbrev pub decreases-loop-at : goal.decreases-loop-at
decreases-loop-at l = length l.region.bytes - l.at
