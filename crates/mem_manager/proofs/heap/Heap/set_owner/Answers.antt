-- A chunk goes to another owner, or its checks refuse it.
use Rattle.mem_manager.proofs.Laws.{refl, inl, inr, Reply, reown_changes, can_go_to, reowned}
use Rattle.mem_manager.proofs.StepWords.{with_names, one_of, is_data, has_chunk, no_data, managed_changed, answers_inside}
use Rattle.mem_manager.proofs.heap.Heap.set_owner.Goals as goal

pub returns-in_err-found-clause-does : goal.returns-in_err-found-clause-does
returns-in_err-found-clause-does c =
    answers_inside (λ done. Reply.Done) c.from_residual.result c.self.view_is c.from_residual.ensures c.in_err-found.ensures.refusal c.self.invariant.heap.accepted (inl (c.in_err-found.ensures.none, refl))

pub invariant_of-self : goal.invariant_of-self
invariant_of-self c = with_names c.self.invariant c.find_again.ensures.remembered

pub returns-in_err-check_callers-clause-does : goal.returns-in_err-check_callers-clause-does
returns-in_err-check_callers-clause-does c =
    let failed = c.in_err-check_callers.ensures in let h = c.self.invariant.heap.accepted in
    let e = c.from_residual-in_err-check_callers in
    answers_inside (λ done. Reply.Done) e.result c.self.view_is e.ensures failed.refusal h
    (let o = c.in_ok-found.ensures.callers in inr (has_chunk o, inl (is_data o failed.err, refl)))

pub returns-in_err-check_owner-clause-does : goal.returns-in_err-check_owner-clause-does
returns-in_err-check_owner-clause-does c =
    let e = c.from_residual-in_err-check_owner in
    answers_inside (λ done. Reply.Done) e.result c.self.view_is e.ensures
    c.in_err-check_owner.ensures.refusal c.self.invariant.heap.accepted
    (let o = c.in_ok-found.ensures.callers in inr (has_chunk o, inr (no_data o c.in_ok-check_callers.ensures.ok, inl (c.in_err-check_owner.ensures.err, refl))))

pub reown-requires-clause-found : goal.reown-requires-clause-found
reown-requires-clause-found c = one_of c.in_ok-found.ensures.found

pub reown-requires-clause-owner : goal.reown-requires-clause-owner
reown-requires-clause-owner c =
    can_go_to c.in_ok-found.ensures.callers c.in_ok-check_owner.ensures.ok

pub invariant_of-self-2 : goal.invariant_of-self-2
invariant_of-self-2 c =
    let given = c.reown.ensures in let o = c.in_ok-found.ensures.callers in
    managed_changed (with_names c.self.invariant c.find_again.ensures.remembered) given.heap
    (reown_changes o.heap.accepted o.is (can_go_to o c.in_ok-check_owner.ensures.ok) given.made)

pub returns-clause-does : goal.returns-clause-does
returns-clause-does c =
    rw (← c.self.view_is) (reowned c.in_ok-found.ensures.callers c.reown.ensures.rest c.in_ok-check_callers.ensures.ok c.in_ok-check_owner.ensures.ok c.reown.ensures.made)
