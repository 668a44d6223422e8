-- `put_middle` calls what writes the rows and the rooms with their numbers.
use Rattle.heap_svg.proofs.Laws.{◌≡◌, ◌<◌, ◌+◌, List, length, ap, subst, sym, arith, All, rooms_drawn, Strip, few_rooms, strips_inside, drawn_rows}
use Rattle.heap_svg.proofs.drawing.Drawing.put_middle.Goals as goal

pub put_framed-requires : goal.put_framed-requires
put_framed-requires g c =
    let image = c.args.region.now.bytes in
    let drawing = c.args.self.now in
    let rows = drawn_rows image drawing c.requires in
    record {
      line = rows.low;
      small = omega arith;
      rows = omega arith;
      offsets = omega arith;
      inside = subst (λ (ss : List Strip). All (λ strip. strip.at + strip.size < 16777216) ss)
          (sym c.as_slice.ensures.value)
          (strips_inside image drawing.strips.items rows.small c.requires.shown);
    }

pub put_rights-requires : goal.put_rights-requires
put_rights-requires g c =
    let image = c.args.region.now.bytes in
    let rows = drawn_rows image c.args.self.now c.requires in
    let count : length c.args.self.now.rooms.all.items ≡ length (rooms_drawn image) =
    ap length c.requires.rooms in
    let rooms = few_rooms image c.requires.accepted.heap in
    record { line = omega arith; few = omega arith; rows = omega arith }
