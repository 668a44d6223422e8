-- The greatest room of all stretches but the last is known, and the room of the last so far.
use Rattle.heap_compact.proofs.Words.{◌-◌, Passed, HaveRooms}
use Rattle.heap_compact.proofs.stretch.largest_room.Given as goal

abbrev pub invariant-loop-at : goal.invariant-loop-at
invariant-loop-at l = Passed l.region.bytes (HaveRooms l.largest l.room) l.at

abbrev pub decreases-loop-at : goal.decreases-loop-at
decreases-loop-at l = l.end - l.at
