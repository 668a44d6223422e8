-- No chunk before `at` is lent and the owner's.
use Rattle.heap_place.proofs.Words.{◌-◌, length, Passed, NoneLentAmong}
use Rattle.heap_place.proofs.owned.lent_of_owner.Given as goal

abbrev pub invariant-loop-at : goal.invariant-loop-at
invariant-loop-at l = Passed l.region.bytes (NoneLentAmong l.region l.owner) l.at

abbrev pub decreases-loop-at : goal.decreases-loop-at
decreases-loop-at l = length l.region.bytes - l.at
