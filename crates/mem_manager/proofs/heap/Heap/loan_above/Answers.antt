-- The heap's value is its region's.
use Rattle.mem_manager.proofs.LoanCalls.{next_loan}
use Rattle.mem_manager.proofs.heap.Heap.loan_above.Goals as goal

pub returns-in-Some-clause-next : goal.returns-in-Some-clause-next
returns-in-Some-clause-next c =
    rw (← c.self.view_is)
    (next_loan c.self.invariant.heap c.in-Some.ensures.found c.in-Some.ensures.next)

pub returns-in-None-clause-none : goal.returns-in-None-clause-none
returns-in-None-clause-none c = rw (← c.self.view_is) c.in-None.ensures.none
