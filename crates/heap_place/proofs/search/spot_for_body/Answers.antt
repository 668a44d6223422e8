-- A body that no image can have has no room.
use Rattle.heap_place.proofs.Laws.{arith, no_run_beyond}
use Rattle.heap_place.proofs.search.spot_for_body.Goals as goal

pub returns-in-None-clause-none : goal.returns-in-None-clause-none
returns-in-None-clause-none c = let big = c.in-None.ensures in no_run_beyond _ _ c.requires.heap.accepted (omega arith)
