-- A chunk is made for a caller, or the owner is refused.
use Rattle.mem_manager.proofs.Laws.{refl, inl, subst, Reply, HeapAccepted, Memory, nothing_slides, itself_one, new_step}
use Rattle.mem_manager.proofs.StepWords.{answers}
use Rattle.mem_manager.proofs.heap.Heap.handle_new.Goals as goal

pub returns-in_err-check_owner-clause-does : goal.returns-in_err-check_owner-clause-does
returns-in_err-check_owner-clause-does c =
    answers (λ name. Reply.Named name) c.from_residual.result c.self.view_is c.from_residual.ensures
    c.in_err-check_owner.ensures.refusal c.self.invariant.heap.accepted
    (inl (c.in_err-check_owner.ensures.err, refl))

pub returns-in_err-check_owner-clause-one_stretch : goal.returns-in_err-check_owner-clause-one_stretch
returns-in_err-check_owner-clause-one_stretch c = itself_one c.args.self.now.bytes

pub returns-in_err-check_owner-clause-once : goal.returns-in_err-check_owner-clause-once
returns-in_err-check_owner-clause-once c =
    rw (← c.self.view_is) (nothing_slides c.self.invariant.heap)

pub returns-clause-does : goal.returns-clause-does
returns-clause-does c =
    let h = c.self.invariant.heap.accepted in
    let accepted = subst (λ (m : Memory). HeapAccepted m.bytes) c.self.view_is h in
    let s = c.sys_new.ensures in
    new_step c.args.size c.args.owner c.sys_new.result accepted c.in_ok-check_owner.ensures.ok
    s.made s.had_room s.no_room s.refusal s.refused s.loan s.rest
