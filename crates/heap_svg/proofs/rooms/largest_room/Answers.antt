-- `largest_room` returns the size of the largest room.
use Rattle.heap_svg.proofs.Words.{◌≤◌, length, ap, arith, drop_all, greatest, sizes}
use Rattle.heap_svg.proofs.rooms.largest_room.Goals as goal

pub returns : goal.returns
returns c =
    let rs = c.args.rooms.now in
    let i = c.loop-room.room-index in
    let past : length rs ≤ i = omega arith in
    let none = ap (λ xs. greatest (sizes xs)) (drop_all i rs past) in
    let was = c.loop-room.invariant in
    omega arith
