-- A movable chunk gets one lock less, or its checks refuse it.
use Rattle.mem_manager.proofs.Laws.{refl, arith, inr, inl, Reply, relock_changes, unlocked, below_fixed, here_of, lent_of}
use Rattle.mem_manager.proofs.StepWords.{one_of, answers, has_lock, is_out, no_lock, managed_changed, has_chunk}
use Rattle.mem_manager.proofs.heap.Heap.unlock.Goals as goal

pub returns-in_err-check_movable-clause-does : goal.returns-in_err-check_movable-clause-does
returns-in_err-check_movable-clause-does c =
    let err = c.in_err-check_movable.ensures.err in let e = c.from_residual-in_err-check_movable in
    answers (λ count. Reply.Number count) e.result c.self.view_is e.ensures
    c.in_err-check_movable.ensures.refusal c.self.invariant.heap.accepted
    (let o = c.in_ok-found.ensures.callers in inr (has_chunk o, inl (has_lock o 15 err, refl)))

pub returns-in_err-check_locked-clause-does : goal.returns-in_err-check_locked-clause-does
returns-in_err-check_locked-clause-does c =
    let e = c.from_residual-in_err-check_locked in
    answers (λ count. Reply.Number count) e.result c.self.view_is e.ensures
    c.in_err-check_locked.ensures.refusal c.self.invariant.heap.accepted
    (let o = c.in_ok-found.ensures.callers in inr (has_chunk o, inr (no_lock o 15 c.in_ok-check_movable.ensures.ok, inl (has_lock o 0 c.in_err-check_locked.ensures.err, refl))))

pub returns-in_err-check_here-clause-does : goal.returns-in_err-check_here-clause-does
returns-in_err-check_here-clause-does c =
    let failed = c.in_err-check_here.ensures in let h = c.self.invariant.heap.accepted in
    let o = c.in_ok-found.ensures.callers in let e = c.from_residual-in_err-check_here in
    let out = is_out o (lent_of c.self.inside.space o.heap.accepted o.is failed.err) in
    answers (λ count. Reply.Number count) e.result c.self.view_is e.ensures failed.refusal h
    (inr (has_chunk o, inr (no_lock o 15 c.in_ok-check_movable.ensures.ok, inr (no_lock o 0 c.in_ok-check_locked.ensures.ok, inl (out, refl)))))

pub relock-requires-clause-found : goal.relock-requires-clause-found
relock-requires-clause-found c = one_of c.in_ok-found.ensures.found

pub relock-requires-clause-movable : goal.relock-requires-clause-movable
relock-requires-clause-movable c =
    let ok = c.in_ok-check_movable.ensures.ok in
    let most = below_fixed c.in_ok-found.ensures.callers ok in omega arith

pub relock-requires-clause-lock : goal.relock-requires-clause-lock
relock-requires-clause-lock c =
    let ok = c.in_ok-check_movable.ensures.ok in
    let most = below_fixed c.in_ok-found.ensures.callers ok in omega arith

pub invariant_of-self : goal.invariant_of-self
invariant_of-self c =
    let o = c.in_ok-found.ensures.callers in
    managed_changed c.self.invariant c.relock.ensures.heap
    (relock_changes _ o.heap.accepted o.is c.in_ok-check_movable.ensures.ok c.relock.ensures.made)

pub returns-clause-does : goal.returns-clause-does
returns-clause-does c =
    let o = c.in_ok-found.ensures.callers in
    let here = here_of o.heap o.is c.in_ok-check_here.ensures.ok in
    rw (← c.self.view_is) (unlocked o c.relock.ensures.rest c.in_ok-check_movable.ensures.ok c.in_ok-check_locked.ensures.ok here c.relock.ensures.made)
