-- `find_rooms` returns the number of rooms of an accepted heap, and the largest, by the laws of
-- RoomLaws.
use Rattle.heap_svg.proofs.Laws.{◌≡◌, ◌∙◌, List, length, ap, arith, greatest, Room, rooms_drawn, sizes, few_rooms, count_packed, largest_packed}
use Rattle.heap_svg.proofs.rooms.find_rooms.Goals as goal

pub overflow_cast-count : goal.overflow_cast-count
overflow_cast-count g c =
    let image = c.args.region.now.bytes in
    let few = few_rooms image c.requires.accepted in
    let most = c.requires.accepted.1.tiles.head.most in
    let count : length c.as_slice-rooms.result.now ≡ length (rooms_drawn image) =
    ap length c.as_slice-rooms.ensures.value ∙ ap length c.in_ok-all.ensures.rooms in
    omega arith

pub returns-clause-count : goal.returns-clause-count
returns-clause-count g c = ap length c.as_slice-rooms.ensures.value
    ∙ count_packed c.args.region.now.bytes _ c.in_ok-all.ensures.rooms

pub returns-clause-largest : goal.returns-clause-largest
returns-clause-largest g c =
    c.largest_room-largest.ensures ∙ ap (λ rs. greatest (sizes rs)) c.as_slice-rooms.ensures.value
    ∙ largest_packed c.args.region.now.bytes _ c.in_ok-all.ensures.rooms
