-- A stretch that ends has the room, or every stretch has less.
use Rattle.heap_compact.proofs.Words.{◌+◌, ◌++◌, sym, subst, arith, SeenRooms, walked_misses}
use Rattle.heap_compact.proofs.SeenLaws.{seen_chunk, seen_size}
use Rattle.heap_compact.proofs.RoomyLaws.{rooms_start, rooms_more, rooms_closed, rooms_low, room_found, room_last, room_none, room_stretch}
use Rattle.heap_compact.proofs.stretch.stretch_with_room.Goals as goal

pub loop-here-init : goal.loop-here-init
loop-here-init c = rooms_start c.args.size c.requires.heap.accepted c.area_start-here.ensures

pub at_with_size-header-requires : goal.at_with_size-header-requires
at_with_size-header-requires c =
    let chunk = seen_chunk c.requires.heap.accepted c.loop-here.invariant.seen (omega arith) in
    record {
      chunk = record { chunk = chunk.0; spelled = chunk.1 };
      small = omega (arith, c.requires.heap.accepted.1.tiles.head.most);
      misses = walked_misses c.args.region.now (c.loop-here.invariant.seen.closed ++ c.loop-here.invariant.seen.run) c.loop-here.here c.requires.heap.accepted c.requires.heap.lent c.loop-here.invariant.seen.spelled (omega arith);
    }

pub overflow_add-room : goal.overflow_add-room
overflow_add-room c =
    let more = rooms_more c.loop-here.invariant c.at_with_size-header.ensures.header c.at_with_size-header.ensures.size (λ stay. let is = c.stays.ensures.1 stay in let isnt = c.if-stays.false in cc) c.size_if_free-room.ensures in
    let inside = (seen_size c.at_with_size-header.ensures.header c.at_with_size-header.ensures.size).1 in
    omega (arith, rooms_low more, inside, c.requires.heap.accepted.1.tiles.head.most)

pub returns-clause-none : goal.returns-clause-none
returns-clause-none c = room_none c.loop-here.invariant c.requires.heap.accepted (omega arith) (omega arith)

pub loop-here-preserved : goal.loop-here-preserved
loop-here-preserved c = elim c.if-stays.branch [
  | goal.then-stays+else-room-size w ↦
      subst (λ n. SeenRooms c.args.region.now.bytes c.args.size n (c.loop-here.here + c.at_with_size-header.result.1) c.if-stays.room) (sym w.start-is) (subst (λ n. SeenRooms c.args.region.now.bytes c.args.size (c.loop-here.here + c.at_with_size-header.result.1) (c.loop-here.here + c.at_with_size-header.result.1) n) (sym w.room-is)
      (rooms_closed c.loop-here.invariant c.at_with_size-header.ensures.header c.at_with_size-header.ensures.size (c.stays.ensures.0 w.if-stays.true) (omega (arith, w.if-room-size.false))))
  | goal.else-stays w ↦
      subst (λ n. SeenRooms c.args.region.now.bytes c.args.size n (c.loop-here.here + c.at_with_size-header.result.1) c.if-stays.room) (sym w.start-is) (subst (λ n. SeenRooms c.args.region.now.bytes c.args.size c.loop-here.start (c.loop-here.here + c.at_with_size-header.result.1) n) (sym w.room-is)
      (rooms_more c.loop-here.invariant c.at_with_size-header.ensures.header c.at_with_size-header.ensures.size (λ stay. let is = c.stays.ensures.1 stay in let isnt = w.if-stays.false in cc) w.size_if_free-room.ensures))
]

pub returns-then-room-size : goal.returns-then-room-size
returns-then-room-size c =
    let room = room_found c.loop-here.invariant c.requires.heap.accepted c.at_with_size-header.ensures.header (c.stays.ensures.0 c.if-stays.true) (omega arith) in
    record { stretch = room_stretch room; room = room; none = tt }

pub returns-then-room-size-2 : goal.returns-then-room-size-2
returns-then-room-size-2 c =
    let room = room_last c.loop-here.invariant c.requires.heap.accepted (omega arith) (omega arith) in
    record { stretch = room_stretch room; room = room; none = tt }
