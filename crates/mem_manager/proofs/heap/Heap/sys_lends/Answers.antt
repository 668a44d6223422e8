-- The body that begins at a chunk's place is the one of its name.
use Rattle.mem_manager.proofs.Laws.{lent_of, lent_begins, found_viewed}
use Rattle.mem_manager.proofs.heap.Heap.sys_lends.Goals as goal

pub returns : goal.returns
returns c =
    let accepted = c.self.invariant.heap.accepted in (
      λ yes. rw c.self.view_is at (lent_of c.self.inside.space accepted (found_viewed c.self.view_is c.sys_find.ensures.stands) (c.lends.ensures.0 yes)),
      λ lent. c.lends.ensures.1 (lent_begins c.self.inside.space accepted (found_viewed c.self.view_is c.sys_find.ensures.stands) (rw (← c.self.view_is) at lent)),
    )
