-- The room leaves its lists and is cut, and its rest goes into its own list.
use Rattle.heap_place.proofs.Laws.{arith, plain_then, rules, room_facts, links_plain, rest_chunk, taken_all, taken_rest, becomes_links, cut_links, alike_spot, alike_cuts, alike_becomes}
use Rattle.heap_place.proofs.lists.take.Goals as goal

pub cut-requires-clause-room : goal.cut-requires-clause-room
cut-requires-clause-room c = alike_spot _ _ _ _ c.unlink.ensures.same c.requires.room

pub overflow_add-room : goal.overflow_add-room
overflow_add-room c =
    let f = room_facts _ _ _ c.requires.heap.accepted c.requires.room in omega arith

pub push-requires-clause-free : goal.push-requires-clause-free
push-requires-clause-free c =
    rest_chunk c.args.size c.cut.ensures.same
    (alike_spot _ _ _ _ c.unlink.ensures.same c.requires.room) c.cut.ensures.cut c.if-size-room.true

pub returns-then-size-room : goal.returns-then-size-room
returns-then-size-room c =
    let u = c.unlink.ensures in let k = c.cut.ensures in let p = c.push.ensures.pushed in
    let room = c.args.room in let size = c.args.size in record {
      same = becomes_links (alike_becomes u.same k.same) p.links;
      cut = cut_links _ _ _ size (alike_cuts _ _ _ size u.same k.cut) p.links;
      lists = taken_rest room.size size c.requires.least c.if-size-room.true u.lists k.keeps p;
      plain = plain_then _ _ _ u.same.plain (plain_then _ _ _ k.plain (links_plain _ _ _ _ p.links));
      rest = search rules;
      heap = c.push.ensures.heap;
    }

pub returns-else-size-room : goal.returns-else-size-room
returns-else-size-room c =
    let u = c.unlink.ensures in let k = c.cut.ensures in record {
      same = alike_becomes u.same k.same;
      cut = alike_cuts _ _ _ _ u.same k.cut;
      lists = taken_all c.args.room.size (omega arith) u.lists k.keeps;
      plain = plain_then _ _ _ u.same.plain k.plain;
      rest = search rules;
      heap = k.heap;
    }
