-- It is given back, as its chunk is not lent.
use Rattle.mem_manager.proofs.Laws.{here_inside, not_lent_other, found_viewed}
use Rattle.mem_manager.proofs.heap.Heap.sys_free.Goals as goal

pub give_back-requires-clause-other : goal.give_back-requires-clause-other
give_back-requires-clause-other c =
    let view = c.self.view_is in
    let here = here_inside view c.self.invariant.heap c.requires.here in
    rw (← view) (not_lent_other c.self.invariant.heap (found_viewed view c.requires.stands) here)
