-- No chunk before `at` is a fixed one of the name.
use Rattle.heap_place.proofs.Words.{◌-◌, length, NoneFixedAs, Passed}
use Rattle.heap_place.proofs.walks.find_fixed.Given as goal

abbrev pub invariant-loop-at : goal.invariant-loop-at
invariant-loop-at l = Passed l.region.bytes (NoneFixedAs l.region.bytes l.name.0) l.at

abbrev pub decreases-loop-at : goal.decreases-loop-at
decreases-loop-at l = length l.region.bytes - l.at
