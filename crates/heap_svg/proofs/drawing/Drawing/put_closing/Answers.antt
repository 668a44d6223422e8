-- `put_closing` calls what writes the free pieces by size with their numbers.
use Rattle.heap_svg.proofs.Laws.{◌≡◌, length, ap, arith, free_pieces, drawn_rows}
use Rattle.heap_svg.proofs.drawing.Drawing.put_closing.Goals as goal

pub sizes_top-requires : goal.sizes_top-requires
sizes_top-requires g c =
    let few = c.requires.accepted.few in
    let count = c.requires.summary.databases in
    let rows = drawn_rows c.args.region.now.bytes c.args.self.now c.requires in
    record { rows = omega arith; databases = omega arith }

pub put_pieces_by_size-requires : goal.put_pieces_by_size-requires
put_pieces_by_size-requires g c =
    let count = c.requires.count in
    let same : length c.args.self.now.pieces.items ≡ length (free_pieces c.args.region.now.bytes) =
    ap length c.requires.pieces in
    let few = c.requires.few in
    let small = c.sizes_top.ensures.small in
    record { top = omega arith; few = omega arith }
