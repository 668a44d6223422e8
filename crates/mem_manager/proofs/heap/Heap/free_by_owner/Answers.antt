-- All chunks of an owner are freed, or the first check refuses.
use Rattle.mem_manager.proofs.Laws.{refl, inl, inr, Reply, owner_freed, managed_anew, lends_of, lends_none}
use Rattle.mem_manager.proofs.StepWords.{refused, answers}
use Rattle.mem_manager.proofs.heap.Heap.free_by_owner.Goals as goal

pub returns-in_err-check_owner-clause-does : goal.returns-in_err-check_owner-clause-does
returns-in_err-check_owner-clause-does c =
    answers (λ count. Reply.Number count) c.from_residual.result c.self.view_is
    c.from_residual.ensures c.in_err-check_owner.ensures.refusal c.self.invariant.heap.accepted
    (inl (c.in_err-check_owner.ensures.err, refl))

pub returns-in-Some-clause-does : goal.returns-in-Some-clause-does
returns-in-Some-clause-does c =
    let caller = c.in_ok-check_owner.ensures.ok in
    let out = lends_of c.self.invariant.heap c.in-Some.ensures.found caller c.in-Some.ensures.owns
    c.in-Some.ensures.begins in
    rw (← c.self.view_is) (refused c.self.invariant.heap.accepted (inr (caller, inl (out, refl))))

pub give_back_owned-count-requires-clause-none_lent : goal.give_back_owned-count-requires-clause-none_lent
give_back_owned-count-requires-clause-none_lent c = c.in_default.ensures.none

pub invariant_of-self : goal.invariant_of-self
invariant_of-self c =
    managed_anew c.give_back_owned-count.ensures.heap
    (c.first-self-inside.ensures c.give_back_owned-count.new.self.bytes) c.none-self-inside.ensures

pub returns-clause-does : goal.returns-clause-does
returns-clause-does c =
    let count_is = c.give_back_owned-count.ensures in let self = c.give_back_owned-count.new.self in
    rw (← c.self.view_is)
    (owner_freed self c.args.owner c.self.invariant.heap c.in_ok-check_owner.ensures.ok
    (lends_none c.self.invariant.heap c.in_default.ensures.none)
    count_is.gone count_is.count count_is.rest)
