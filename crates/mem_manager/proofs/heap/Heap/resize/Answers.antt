-- A chunk takes another length, or its checks refuse it.
use Rattle.mem_manager.proofs.Laws.{inl, inr, refl, Reply, itself_alone, resize_replied, growth_lent, resize_refused, managed_resized, lent_of}
use Rattle.mem_manager.proofs.StepWords.{has_chunk, no_data, answers, is_data, has_lock}
use Rattle.mem_manager.proofs.heap.Heap.resize.Goals as goal

pub returns-in_err-check_callers-clause-does : goal.returns-in_err-check_callers-clause-does
returns-in_err-check_callers-clause-does c =
    let failed = c.in_err-check_callers.ensures in let h = c.self.invariant.heap.accepted in
    let e = c.from_residual-in_err-check_callers in
    answers (λ done. Reply.Done) e.result c.self.view_is e.ensures failed.refusal h
    (let o = c.in_ok-found.ensures.callers in inr (has_chunk o, inl (is_data o failed.err, refl)))

pub returns-in_err-check_movable-clause-does : goal.returns-in_err-check_movable-clause-does
returns-in_err-check_movable-clause-does c =
    let o = c.in_ok-found.ensures.callers in let e = c.from_residual-in_err-check_movable in
    answers (λ done. Reply.Done) e.result c.self.view_is e.ensures
    c.in_err-check_movable.ensures.refusal c.self.invariant.heap.accepted
    (inr (has_chunk o, inr (no_data o c.in_ok-check_callers.ensures.ok, inl (has_lock o 15 c.in_err-check_movable.ensures.err, refl))))

pub returns-in_err-check_here-clause-does : goal.returns-in_err-check_here-clause-does
returns-in_err-check_here-clause-does c =
    let ok = c.in_ok-check_callers.ensures.ok in let o = c.in_ok-found.ensures.callers in
    let e = c.from_residual-in_err-check_here in
    let out = growth_lent c.args.size o.heap o.is
    (lent_of c.self.inside.space o.heap.accepted o.is c.in_err-check_here.ensures.err) in
    answers (λ done. Reply.Done) e.result c.self.view_is e.ensures
    c.in_err-check_here.ensures.refusal c.self.invariant.heap.accepted
    (resize_refused c.args.size o ok c.in_ok-check_movable.ensures.ok out)

pub returns-in_err-found-clause-one_stretch : goal.returns-in_err-found-clause-one_stretch
returns-in_err-found-clause-one_stretch c = itself_alone c.args.self.now.bytes c.args.name.0

pub returns-in_err-check_callers-clause-one_stretch : goal.returns-in_err-check_callers-clause-one_stretch
returns-in_err-check_callers-clause-one_stretch c = itself_alone c.args.self.now.bytes c.args.name.0

pub returns-in_err-check_movable-clause-one_stretch : goal.returns-in_err-check_movable-clause-one_stretch
returns-in_err-check_movable-clause-one_stretch c = itself_alone c.args.self.now.bytes c.args.name.0

pub returns-in_err-check_here-clause-one_stretch : goal.returns-in_err-check_here-clause-one_stretch
returns-in_err-check_here-clause-one_stretch c = itself_alone c.args.self.now.bytes c.args.name.0

pub invariant_of-self : goal.invariant_of-self
invariant_of-self c = managed_resized c.in_ok-found.found.name.0 c.args.size c.resize_found.result c.self.invariant c.resize_found.ensures.heap c.resize_found.ensures.done c.resize_found.ensures.refused

pub returns-clause-does : goal.returns-clause-does
returns-clause-does c =
    let r = c.resize_found.ensures in
    rw (← c.self.view_is) (resize_replied c.args.size c.resize_found.result c.in_ok-found.ensures.callers c.in_ok-check_callers.ensures.ok c.in_ok-check_movable.ensures.ok r.done r.could r.refused r.why r.rest)
