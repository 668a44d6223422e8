-- `put_notes` calls what writes the bar with its numbers.
use Rattle.heap_svg.proofs.Laws.{refl, arith, rooms_drawn, small_pieces, small_rooms, largest_packed}
use Rattle.heap_svg.proofs.drawing.Drawing.put_notes.Goals as goal

pub put_bar-requires : goal.put_bar-requires
put_bar-requires g c =
    let image = c.args.region.now.bytes in
    let size = c.requires.summary.heap.size in
    let largest = c.requires.largest in
    let left = c.requires.left_largest in
    let small = small_pieces image c.requires.accepted.heap in
    let few = small_rooms image c.requires.accepted.heap in
    let same = largest_packed image (rooms_drawn image) refl in
    let most = c.requires.accepted.heap.1.tiles.head.most in
    record { largest = omega arith; most = omega arith }
