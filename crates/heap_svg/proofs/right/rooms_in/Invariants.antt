-- The loop of `rooms_in` keeps its invariant: the rooms so far and those that are left make the
-- counts of the row.
use Rattle.heap_svg.proofs.Words.{◌≡◌, ◌+◌, ◌≤◌, length, drop, max, greatest, sizes_in}
use Rattle.heap_svg.proofs.right.rooms_in.Given as goal

abbrev pub invariant-loop-room : goal.invariant-loop-room
invariant-loop-room l = record {
  count : length (sizes_in l.line l.row l.rooms)
      ≡ l.here.count + length (sizes_in l.line l.row (drop l.room-index l.rooms));
  largest : greatest (sizes_in l.line l.row l.rooms)
      ≡ max l.here.largest (greatest (sizes_in l.line l.row (drop l.room-index l.rooms)));
  few : l.here.count ≤ l.room-index;
}
