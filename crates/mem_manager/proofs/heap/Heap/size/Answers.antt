-- The chunk of a slot near is a caller's, so its length is the reply.
use Rattle.mem_manager.proofs.Laws.{arith, size_known}
use Rattle.mem_manager.proofs.heap.Heap.size.Goals as goal

pub returns-in-Some : goal.returns-in-Some
returns-in-Some c =
    let some = c.if-found-ne-MANAGERS_OWNER.true in
    rw (← c.self.view_is) (size_known (record { heap = c.self.invariant.heap; is = c.in-Some.ensures.found; callers = omega (arith, some) }))
