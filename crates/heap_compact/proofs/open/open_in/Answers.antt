-- The packed stretch has its room at its end, and later chunks are lifted over it.
use Rattle.heap_compact.proofs.Laws.{◌-◌, ◌≤◌, arith, moved_within, table_within, same_lents, ◌∙◌, exactly_linked, StretchPacked, pack_facts, stretch_run, among_stretch, packed_frame, slot_then, numbers, room_behind, OpensRoom, opened_some, opened_none, lifted_room, same_slid}
use Rattle.heap_compact.proofs.open.open_in.Goals.{After-pack-room, After-push_alone}
use Rattle.heap_compact.proofs.open.open_in.Goals as goal

abbrev packed : (c : After-pack-room) → StretchPacked c.args.region.now.bytes c.pack-room.new.region.bytes (c.args.found.place.0 - 8) c.args.found.name.0 c.args.found.length c.args.stretch c.pack-room.result.room
packed c = pack_facts c.requires.heap c.requires.among c.pack-room.ensures.packed c.pack-room.ensures.room

slid_few : (c : After-pack-room)
    → c.pack-room.result.slid ≤ c.args.stretch.end - c.args.stretch.start
slid_few c =
    let s = among_stretch c.requires.among in
    omega (arith, c.pack-room.ensures.moved (stretch_run s.is), moved_within 0 s.mid, s.is.to)

-- room was opened
opens : (c : After-push_alone) → OpensRoom (pack_facts c.requires.heap c.requires.among c.pack-room.ensures.packed c.pack-room.ensures.room) c.push_alone.new.region.bytes
opens c =
    let p = pack_facts c.requires.heap c.requires.among c.pack-room.ensures.packed c.pack-room.ensures.room in
    let behind = room_behind p _ (omega arith) (omega (arith, c.word_of-place.ensures, c.size_of_body.ensures)) in
    opened_some p _ (omega arith) (exactly_linked (c.lift.ensures.lifted behind) c.push_alone.ensures.same)

pub pack-room-requires-clause-run : goal.pack-room-requires-clause-run
pack-room-requires-clause-run c = stretch_run c.requires.among.is

pub word_of-place-requires : goal.word_of-place-requires
word_of-place-requires c =
    let p = packed (goal.at.word_of-place-requires c).After-pack-room in
    record { table = table_within _ (packed_frame p).accepted c.pack-room.ensures.heap.lent; slot = slot_then p }

pub overflow_sub-behind : goal.overflow_sub-behind
overflow_sub-behind c =
    let n = numbers (packed (goal.at.overflow_sub-behind c).After-pack-room) in
    omega (arith, n.behind_header, c.word_of-place.ensures)

pub size_of_body-requires : goal.size_of_body-requires
size_of_body-requires c =
    let n = numbers (packed (goal.at.size_of_body-requires c).After-pack-room) in
    omega (arith, n.inside, n.most)

pub overflow_add-behind : goal.overflow_add-behind
overflow_add-behind c =
    let n = numbers (packed (goal.at.overflow_add-behind c).After-pack-room) in
    omega (arith, n.inside, n.most, c.word_of-place.ensures, c.size_of_body.ensures)

pub overflow_sub-stretch : goal.overflow_sub-stretch
overflow_sub-stretch c = (numbers (packed (goal.at.overflow_sub-stretch c).After-pack-room)).within

pub lift-requires-clause-behind : goal.lift-requires-clause-behind
lift-requires-clause-behind c =
    room_behind (packed (goal.at.lift-requires-clause-behind c).After-pack-room) _ (omega arith)
    (omega (arith, c.word_of-place.ensures, c.size_of_body.ensures))

pub returns-then-room-gt0 : goal.returns-then-room-gt0
returns-then-room-gt0 c =
    let p = (goal.at.returns-then-room-gt0 c).After-pack-room in
    let o = opens (goal.at.returns-then-room-gt0 c).After-push_alone in
    let last = c.push_alone.ensures in record {
      lists = last.lists;
      opened = o.opened_behind;
      exact = o.exact;
      frame = o.frame;
      plain = o.plain;
      out = same_lents last.rest ∙ c.lift.ensures.out ∙ c.pack-room.ensures.out;
      few = omega (arith, slid_few p, (numbers (packed p)).from, c.pack-room.ensures.slid, c.lift.ensures.slid, same_slid last.rest, c.word_of-place.ensures);
      heap = last.heap;
    }

pub returns-else-room-gt0 : goal.returns-else-room-gt0
returns-else-room-gt0 c =
    let p = (goal.at.returns-else-room-gt0 c).After-pack-room in
    let o = opened_none (packed p) (omega arith) in let last = c.pack-room.ensures in
    record { lists = last.lists; opened = o.opened_behind; exact = o.exact; frame = o.frame; plain = o.plain; out = last.out; few = omega (arith, slid_few p, last.slid); heap = last.heap }

pub push_alone-requires-clause-free : goal.push_alone-requires-clause-free
push_alone-requires-clause-free c =
    lifted_room (room_behind (packed (goal.at.push_alone-requires-clause-free c).After-pack-room) _ (omega arith)
    (omega (arith, c.word_of-place.ensures, c.size_of_body.ensures))) c.lift.ensures.lifted
