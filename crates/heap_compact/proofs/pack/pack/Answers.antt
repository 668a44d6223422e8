-- Each step packs one more chunk of the run, and the last room goes into its list.
use Rattle.heap_compact.proofs.Laws.{◌-◌, ◌∙◌, arith, refl, Before, new_lists, lists_any, same_lents, exactly_linked, packing_start, packing_more, packing_next, packing_on, packing_done, room_packed, same_slid}
use Rattle.heap_compact.proofs.pack.pack.Goals as goal

pub loop-at-init : goal.loop-at-init
loop-at-init c = (packing_start _ _ c.requires.heap.accepted, omega arith, rw (← c.empty.ensures) at (new_lists (Before (c.args.start - 0)) c.args.region.now.bytes), c.requires.heap, refl)

pub pack_one-step-requires-clause-behind : goal.pack_one-step-requires-clause-behind
pack_one-step-requires-clause-behind c = packing_next c.loop-at.invariant.0 c.requires.run (omega arith)

pub overflow_add-at : goal.overflow_add-at
overflow_add-at c =
    let on = packing_on c.loop-at.invariant.0 c.requires.run (omega arith) c.pack_one-step.ensures.packed in
    omega (arith, c.ranges.end.fits, on.within)

pub overflow_add-slid : goal.overflow_add-slid
overflow_add-slid c =
    let on = packing_on c.loop-at.invariant.0 c.requires.run (omega arith) c.pack_one-step.ensures.packed in
    omega (arith, c.ranges.end.fits, on.few)

pub loop-at-smaller : goal.loop-at-smaller
loop-at-smaller c =
    let on = packing_on c.loop-at.invariant.0 c.requires.run (omega arith) c.pack_one-step.ensures.packed in
    omega (arith, on.on, on.within)

pub loop-at-preserved : goal.loop-at-preserved
loop-at-preserved c =
    let before = c.loop-at.invariant.1 in (
      packing_more c.loop-at.invariant.0 (omega arith) c.pack_one-step.ensures.packed,
      omega (arith, c.pack_one-step.ensures.slid, before),
      c.pack_one-step.ensures.lists,
      c.pack_one-step.ensures.heap,
      c.pack_one-step.ensures.out ∙ c.loop-at.invariant.4,
    )

pub push_room-requires : goal.push_room-requires
push_room-requires c =
    let i = c.loop-at.invariant in let room = room_packed i.0 c.requires.run in
    record { heap = i.3; within = room.0; free = room.1; lists = i.2 }

pub returns : goal.returns
returns c =
    let i = c.loop-at.invariant in let all = packing_done i.0 (omega arith) in
    let p = c.push_room.ensures in record {
      lists = lists_any _ _ _ p.lists;
      packed = λ run. exactly_linked (all run).becomes p.same;
      moved = λ run. (all run).moved_is;
      room = λ run. (all run).room_is;
      out = same_lents p.rest ∙ i.4;
      slid = same_slid p.rest ∙ i.1;
      heap = p.heap;
    }
