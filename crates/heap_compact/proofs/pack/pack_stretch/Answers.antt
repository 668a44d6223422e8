-- A whole stretch is a run, so packing the run packs the stretch.
use Rattle.heap_compact.proofs.Laws.{arith, exactly_becomes, stretch_run, room_left, packed_end}
use Rattle.heap_compact.proofs.pack.pack_stretch.Goals as goal

pub pack-requires-clause-run : goal.pack-requires-clause-run
pack-requires-clause-run c = stretch_run c.requires.stretch.is

pub returns : goal.returns
returns c =
    let s = c.requires.stretch in let p = c.pack.ensures in
    let room = room_left c.args.stretch p.room in let here = p.packed (stretch_run s.is) in record {
      lists = p.lists;
      packed = λ before mid after x. exactly_becomes (p.packed (stretch_run x));
      room = record { all_room = room; at_end = λ some. packed_end s.is here (room s.before s.mid s.after s.is) };
      frame = here.frame;
      plain = here.plain;
      out = p.out;
      slid = λ before mid after x. omega (arith, p.slid, p.moved (stretch_run x));
      heap = p.heap;
    }
