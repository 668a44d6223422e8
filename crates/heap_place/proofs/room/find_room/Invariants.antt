-- No run before the last one that was passed has the room.
use Rattle.heap_place.proofs.Words.{◌-◌, length, Searched}
use Rattle.heap_place.proofs.room.find_room.Given as goal

abbrev pub invariant-loop-at : goal.invariant-loop-at
invariant-loop-at l = Searched l.region.bytes l.size l.at l.run_size

abbrev pub decreases-loop-at : goal.decreases-loop-at
decreases-loop-at l = length l.region.bytes - l.at
