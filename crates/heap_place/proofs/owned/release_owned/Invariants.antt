-- The owner's chunks before `at` are free and counted.
use Rattle.heap_place.proofs.Words.{◌-◌, ◌≡◌, length, LendsNoneOf, HoldsHeap, Freeing}
use Rattle.heap_place.proofs.owned.release_owned.Given as goal

abbrev pub invariant-loop-at : goal.invariant-loop-at
invariant-loop-at l = Freeing l.fn.region.bytes l.region.bytes l.owner l.at l.count × (l.region ≡ record l.fn.region { bytes = l.region.bytes }) × HoldsHeap l.region × LendsNoneOf l.region l.owner

abbrev pub decreases-loop-at : goal.decreases-loop-at
decreases-loop-at l = length l.fn.region.bytes - l.at
