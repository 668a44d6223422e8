-- Room is found, or made by packing one stretch, or no stretch has it.
use Rattle.heap_compact.proofs.Laws.{spot_not_short, slides_nothing, moves_none}
use Rattle.heap_compact.proofs.making.make_room.Goals as goal

pub returns-in-Some-clause-not_short : goal.returns-in-Some-clause-not_short
returns-in-Some-clause-not_short c = spot_not_short _ _ _ _ c.requires.some_size c.in-Some.ensures.room c.in-Some.ensures.enough

pub returns-in-Some-clause-slides : goal.returns-in-Some-clause-slides
returns-in-Some-clause-slides c = slides_nothing _ c.holds.ensures.accepted

pub returns-in-Some-clause-once : goal.returns-in-Some-clause-once
returns-in-Some-clause-once c = moves_none _ c.args.space.now.slid c.holds.ensures.accepted
