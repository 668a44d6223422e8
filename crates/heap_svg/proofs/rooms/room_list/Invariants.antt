-- The loop of `room_list` keeps its invariant: the rooms are those of the chunks that were passed.
use Rattle.heap_svg.proofs.Laws.{◌-◌, length, HasPassed, HaveRooms}
use Rattle.heap_svg.proofs.rooms.room_list.Given as goal

abbrev pub invariant-loop-at : goal.invariant-loop-at
invariant-loop-at g l = HasPassed l.region.bytes (HaveRooms l.region.bytes l.rooms) l.at

abbrev pub decreases-loop-at : goal.decreases-loop-at
decreases-loop-at g l = length l.region.bytes - l.at
