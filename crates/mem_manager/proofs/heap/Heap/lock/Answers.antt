-- A movable chunk gets one lock more, or its checks refuse it.
use Rattle.mem_manager.proofs.Laws.{◌≢◌, refl, arith, inl, inr, Reply, relock_changes, locked, below_fixed, out_unmoved}
use Rattle.mem_manager.proofs.StepWords.{one_of, has_lock, managed_changed, no_lock, refused, has_chunk, answers}
use Rattle.mem_manager.proofs.heap.Heap.lock.Goals as goal

pub returns-in_err-check_movable-clause-does : goal.returns-in_err-check_movable-clause-does
returns-in_err-check_movable-clause-does c =
    let err = c.in_err-check_movable.ensures.err in let e = c.from_residual-in_err-check_movable in
    answers (λ locked. Reply.Locked locked.place locked.count) e.result c.self.view_is e.ensures
    c.in_err-check_movable.ensures.refusal c.self.invariant.heap.accepted
    (let o = c.in_ok-found.ensures.callers in inr (has_chunk o, inl (has_lock o 15 err, refl)))

pub returns-then-found-eq-MOST_LOCKS-clause-does : goal.returns-then-found-eq-MOST_LOCKS-clause-does
returns-then-found-eq-MOST_LOCKS-clause-does c =
    let o = c.in_ok-found.ensures.callers in
    rw (← c.self.view_is) (refused o.heap.accepted (inr (has_chunk o, inr (no_lock o 15 c.in_ok-check_movable.ensures.ok, inl (has_lock o 14 c.if-found-eq-MOST_LOCKS.true, refl)))))

pub overflow_add-count : goal.overflow_add-count
overflow_add-count c =
    let ok = c.in_ok-check_movable.ensures.ok in
    let most = below_fixed c.in_ok-found.ensures.callers ok in omega arith

pub relock-requires-clause-found : goal.relock-requires-clause-found
relock-requires-clause-found c = one_of c.in_ok-found.ensures.found

pub relock-requires-clause-movable : goal.relock-requires-clause-movable
relock-requires-clause-movable c =
    let ok = c.in_ok-check_movable.ensures.ok in
    let most = below_fixed c.in_ok-found.ensures.callers ok in omega arith

pub relock-requires-clause-lock : goal.relock-requires-clause-lock
relock-requires-clause-lock c =
    let most = below_fixed c.in_ok-found.ensures.callers c.in_ok-check_movable.ensures.ok in
    let few : c.in_ok-found.found.lock ≢ 14 = c.if-found-eq-MOST_LOCKS.false in omega arith

pub invariant_of-self : goal.invariant_of-self
invariant_of-self c =
    let o = c.in_ok-found.ensures.callers in
    managed_changed c.self.invariant c.relock.ensures.heap
    (relock_changes _ o.heap.accepted o.is c.in_ok-check_movable.ensures.ok c.relock.ensures.made)

pub returns-clause-does : goal.returns-clause-does
returns-clause-does c =
    rw (← c.self.view_is) (locked c.in_ok-found.ensures.callers c.relock.ensures.rest c.in_ok-check_movable.ensures.ok c.if-found-eq-MOST_LOCKS.false c.relock.ensures.made)

pub returns-clause-unmoved : goal.returns-clause-unmoved
returns-clause-unmoved c =
    let o = c.in_ok-found.ensures.callers in
    rw (← c.self.view_is) (out_unmoved o.heap.accepted o.is (relock_changes _ o.heap.accepted o.is c.in_ok-check_movable.ensures.ok c.relock.ensures.made))
