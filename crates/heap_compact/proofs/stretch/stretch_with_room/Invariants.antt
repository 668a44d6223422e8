-- Every stretch that has ended has less room, and the last one has `room` bytes so far.
use Rattle.heap_compact.proofs.Words.{◌-◌, SeenRooms}
use Rattle.heap_compact.proofs.stretch.stretch_with_room.Given as goal

abbrev pub invariant-loop-here : goal.invariant-loop-here
invariant-loop-here l = SeenRooms l.region.bytes l.size l.start l.here l.room

abbrev pub decreases-loop-here : goal.decreases-loop-here
decreases-loop-here l = l.end - l.here
