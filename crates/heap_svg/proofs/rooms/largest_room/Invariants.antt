-- The loop of `largest_room` keeps its invariant: the largest so far and the rooms that are left
-- give the largest of all.
use Rattle.heap_svg.proofs.Words.{◌≡◌, drop, max, greatest, sizes}
use Rattle.heap_svg.proofs.rooms.largest_room.Given as goal

abbrev pub invariant-loop-room : goal.invariant-loop-room
invariant-loop-room l =
    greatest (sizes l.rooms) ≡ max l.largest (greatest (sizes (drop l.room-index l.rooms)))
