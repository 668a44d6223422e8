-- The packed stretch has its room at its end, or no stretch has it.
use Rattle.heap_compact.proofs.Words.{arith, packs_one, one_packed_moved, stretch_not_short}
use Rattle.heap_compact.proofs.MadeRoomLaws.{slides_nothing, moves_none}
use Rattle.heap_compact.proofs.making.room_by_packing.Goals as goal

pub returns-in_err-stretch-clause-slides : goal.returns-in_err-stretch-clause-slides
returns-in_err-stretch-clause-slides c = slides_nothing _ c.holds.ensures.accepted

pub returns-in_err-stretch-clause-once : goal.returns-in_err-stretch-clause-once
returns-in_err-stretch-clause-once c = moves_none _ c.args.space.now.slid c.holds.ensures.accepted

pub returns-clause-not_short : goal.returns-clause-not_short
returns-clause-not_short c short =
    let r = c.in_ok-stretch.ensures.room in
    stretch_not_short _ _ _ _ c.args.size r.is.whole c.requires.some_size r.enough short

pub returns-clause-slides : goal.returns-clause-slides
returns-clause-slides c =
    let r = c.in_ok-stretch.ensures.room in
    packs_one _ _ r.before r.mid r.after r.is.whole.chunks r.is.whole.none_stays
    (c.pack_stretch-room.ensures.packed r.before r.mid r.after r.is)

pub returns-clause-once : goal.returns-clause-once
returns-clause-once c =
    let r = c.in_ok-stretch.ensures.room in
    let moved = one_packed_moved _ _ r.before r.mid r.after r.is.whole.chunks (c.pack_stretch-room.ensures.packed r.before r.mid r.after r.is) in
    omega (arith, moved, c.pack_stretch-room.ensures.slid r.before r.mid r.after r.is)
