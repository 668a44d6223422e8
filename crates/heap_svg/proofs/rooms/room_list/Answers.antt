-- `room_list` returns the rooms of an accepted heap, in order, by the laws of RoomLaws.
use Rattle.heap_svg.proofs.Laws.{arith, read_heap, passed_there, passed_size, passed_all, free_size_by, HaveRooms, rooms_start, rooms_step, rooms_small, rooms_end}
use Rattle.heap_svg.proofs.rooms.room_list.Goals as goal

pub loop-at-init : goal.loop-at-init
loop-at-init g c = rooms_start _ _ _ c.requires.accepted c.area_start-at.ensures
    c.in_ok-rooms.ensures.met c.in_ok-rooms.ensures.last

pub at_with_size-header-requires-clause-chunk : goal.at_with_size-header-requires-clause-chunk
at_with_size-header-requires-clause-chunk g c =
    passed_there _ _ _ (read_heap _ c.requires.accepted).tiles c.loop-at.invariant (omega arith)

pub add-requires : goal.add-requires
add-requires g c =
    let small = rooms_small _ _ _ c.loop-at.invariant in
    let inside = (passed_size _ _ _ c.at_with_size-header.ensures.header).1 in
    let most = c.requires.accepted.1.tiles.head.most in
    let within = free_size_by c.at_with_size-header.result.0 in
    omega arith

pub loop-at-preserved : goal.loop-at-preserved
loop-at-preserved g c =
    rooms_step _ _ _ _ _ _ c.loop-at.invariant c.at_with_size-header.ensures.header
    c.at_with_size-header.ensures.size c.in_ok-add.ensures.added

pub returns-clause-rooms : goal.returns-clause-rooms
returns-clause-rooms g c =
    let len = c.len.ensures in
    rooms_end c.args.region.now.bytes c.loop-at.rooms c.keep.new.self.met.items
    c.in_ok-keep.ensures.met (passed_all c.args.region.now.bytes (HaveRooms c.args.region.now.bytes
    c.loop-at.rooms) c.loop-at.at (omega arith) c.loop-at.invariant).holds
