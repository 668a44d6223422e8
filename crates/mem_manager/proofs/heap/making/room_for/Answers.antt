-- A size beyond the limit is short of room, and nothing moves.
use Rattle.mem_manager.proofs.Laws.{arith, need, short_beyond, slides_nothing, moves_none}
use Rattle.mem_manager.proofs.heap.making.room_for.Goals as goal

pub returns-in_default-clause-short : goal.returns-in_default-clause-short
returns-in_default-clause-short c = let big = c.in_default.ensures in short_beyond c.args.space.now.bytes (need c.args.size) c.holds.ensures.accepted (omega (arith, big))

pub returns-in_default-clause-slides : goal.returns-in_default-clause-slides
returns-in_default-clause-slides c = slides_nothing c.args.space.now.bytes c.holds.ensures.accepted

pub returns-in_default-clause-once : goal.returns-in_default-clause-once
returns-in_default-clause-once c =
    moves_none c.args.space.now.bytes c.args.space.now.slid c.holds.ensures.accepted
