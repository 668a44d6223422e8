-- No chunk before `at` begins at the offset.
use Rattle.heap_place.proofs.Words.{◌-◌, length, NoneBeginsAt, Passed}
use Rattle.heap_place.proofs.walks.begins_at.Given as goal

abbrev pub invariant-loop-at : goal.invariant-loop-at
invariant-loop-at l = Passed l.region.bytes (NoneBeginsAt l.region.bytes l.there) l.at

abbrev pub decreases-loop-at : goal.decreases-loop-at
decreases-loop-at l = length l.region.bytes - l.at
