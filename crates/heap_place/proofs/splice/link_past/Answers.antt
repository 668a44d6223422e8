-- The chunk before gets the link of the one that leaves the list.
use Rattle.heap_place.proofs.Laws.{arith, rules, same_bytes, same_lents, looked_free, begun_chunk, linked_past, linked_nowhere, second_within, linked_holds}
use Rattle.heap_place.proofs.splice.link_past.Goals as goal

pub get_u32-next-requires : goal.get_u32-next-requires
get_u32-next-requires c = second_within c.requires.heap (begun_chunk _ c.requires.heap.accepted c.requires.free.begins)

pub put_u32-requires : goal.put_u32-requires
put_u32-requires c =
    let f = looked_free c.requires.leads.looking c.if-before-ne0.true in
    second_within c.requires.heap (begun_chunk c.args.before c.requires.heap.accepted f.begins)

pub returns-then-before-ne0 : goal.returns-then-before-ne0
returns-then-before-ne0 c =
    let r = c.requires in
    let done = linked_past r.heap.accepted r.lists r.class r.leads r.free c.if-before-ne0.true c.get_u32-next.ensures (omega arith) (same_bytes c.put_u32.ensures.after) in
    record { same = done.0; lists = done.1; rest = search rules; heap = linked_holds r.heap (same_lents c.put_u32.ensures.after) done.0 }

pub returns-else-before-ne0-clause-lists : goal.returns-else-before-ne0-clause-lists
returns-else-before-ne0-clause-lists c = linked_nowhere c.requires.lists c.requires.class c.requires.leads c.requires.free (omega arith)
