-- Bytes are written over those of an open chunk, or the checks refuse it.
use Rattle.mem_manager.proofs.Laws.{length, arith, refl, Reply, write_beyond, write_changes, write_passes, overwrites, write_refused}
use Rattle.mem_manager.proofs.StepWords.{with_names, one_of, alters_does, answers_inside, managed_changed}
use Rattle.mem_manager.proofs.heap.Heap.write.Goals as goal

pub returns-in_err-found-clause-does : goal.returns-in_err-found-clause-does
returns-in_err-found-clause-does c =
    answers_inside (λ done. Reply.Done) c.from_residual.result c.self.view_is c.from_residual.ensures refl c.self.invariant.heap.accepted (write_refused c.self.inside.space c.args.name.0 c.args.at (length c.args.bytes.now) c.in_err-found.ensures.why)

pub invariant_of-self : goal.invariant_of-self
invariant_of-self c = with_names c.self.invariant c.find_open.ensures.remembered

pub returns-in_err-check_range-clause-does : goal.returns-in_err-check_range-clause-does
returns-in_err-check_range-clause-does c =
    let failed = c.in_err-check_range.ensures in let h = c.self.invariant.heap.accepted in
    let e = c.from_residual-in_err-check_range in
    answers_inside (λ done. Reply.Done) e.result c.self.view_is e.ensures failed.refusal h
    (write_beyond c.in_ok-found.ensures.may_write c.args.at (length c.args.bytes.now) failed.err)

pub write-requires-clause-found : goal.write-requires-clause-found
write-requires-clause-found c = one_of c.in_ok-found.ensures.found

pub write-requires-clause-within : goal.write-requires-clause-within
write-requires-clause-within c = let inside = c.in_ok-check_range.ensures.ok in omega arith

pub write-requires-clause-other : goal.write-requires-clause-other
write-requires-clause-other c = c.in_ok-found.ensures.may_write.other

pub invariant_of-self-2 : goal.invariant_of-self-2
invariant_of-self-2 c =
    let remembered = c.find_open.ensures.remembered in
    let o = c.in_ok-found.ensures.may_write.owned in
    managed_changed (with_names c.self.invariant remembered) c.write.ensures.heap
    (write_changes c.args.at c.args.bytes.now o.heap.accepted o.is (let inside = c.in_ok-check_range.ensures.ok in omega arith) c.write.ensures.made)

pub returns-clause-does : goal.returns-clause-does
returns-clause-does c =
    let o = c.in_ok-found.ensures.may_write in
    let a = overwrites o c.args.at c.args.bytes.now c.write.ensures.rest
    (let inside = c.in_ok-check_range.ensures.ok in omega arith) c.write.ensures.made in
    rw (← c.self.view_is) (alters_does o.owned.heap a.0 a.1 (write_passes o c.args.at (length c.args.bytes.now) c.in_ok-check_range.ensures.ok, (tt, a.0.leaves.map)) a.0.leaves.frame tt c.write.ensures.rest)
