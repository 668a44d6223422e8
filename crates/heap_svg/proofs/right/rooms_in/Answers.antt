-- `rooms_in` returns the number of rooms of a row, and the largest.
use Rattle.heap_svg.proofs.Words.{◌≤◌, length, ap, arith, drop_all, greatest, sizes_in}
use Rattle.heap_svg.proofs.right.rooms_in.Goals as goal

pub returns-clause-count : goal.returns-clause-count
returns-clause-count c =
    let rs = c.args.rooms.now in
    let i = c.loop-room.room-index in
    let past : length rs ≤ i = omega arith in
    let none = ap (λ xs. length (sizes_in c.args.line c.args.row xs)) (drop_all i rs past) in
    let was = c.loop-room.invariant.count in
    omega arith

pub returns-clause-largest : goal.returns-clause-largest
returns-clause-largest c =
    let rs = c.args.rooms.now in
    let i = c.loop-room.room-index in
    let past : length rs ≤ i = omega arith in
    let none = ap (λ xs. greatest (sizes_in c.args.line c.args.row xs)) (drop_all i rs past) in
    let was = c.loop-room.invariant.largest in
    omega arith
