-- Bytes of an open chunk are set to one byte, or the checks refuse it.
use Rattle.mem_manager.proofs.Laws.{ℕ, replicate, arith, refl, length-replicate, Reply, write_beyond, write_changes, write_passes, write_refused, overwrites}
use Rattle.mem_manager.proofs.StepWords.{with_names, one_of, answers_inside, managed_changed, alters_does}
use Rattle.mem_manager.proofs.heap.Heap.set.Goals as goal

pub returns-in_err-found-clause-does : goal.returns-in_err-found-clause-does
returns-in_err-found-clause-does c =
    answers_inside (λ done. Reply.Done) c.from_residual.result c.self.view_is c.from_residual.ensures refl c.self.invariant.heap.accepted (write_refused c.self.inside.space c.args.name.0 c.args.at c.args.count c.in_err-found.ensures.why)

pub invariant_of-self : goal.invariant_of-self
invariant_of-self c = with_names c.self.invariant c.find_open.ensures.remembered

pub returns-in_err-check_range-clause-does : goal.returns-in_err-check_range-clause-does
returns-in_err-check_range-clause-does c =
    let failed = c.in_err-check_range.ensures in let h = c.self.invariant.heap.accepted in
    let e = c.from_residual-in_err-check_range in
    answers_inside (λ done. Reply.Done) e.result c.self.view_is e.ensures failed.refusal h
    (write_beyond c.in_ok-found.ensures.may_write c.args.at c.args.count failed.err)

pub fill-requires-clause-found : goal.fill-requires-clause-found
fill-requires-clause-found c = one_of c.in_ok-found.ensures.found

pub fill-requires-clause-within : goal.fill-requires-clause-within
fill-requires-clause-within c = let inside = c.in_ok-check_range.ensures.ok in omega arith

pub fill-requires-clause-other : goal.fill-requires-clause-other
fill-requires-clause-other c = c.in_ok-found.ensures.may_write.other

pub invariant_of-self-2 : goal.invariant_of-self-2
invariant_of-self-2 c =
    let o = c.in_ok-found.ensures.may_write.owned in
    managed_changed (with_names c.self.invariant c.find_open.ensures.remembered) c.fill.ensures.heap
    (write_changes c.args.at (replicate c.args.count c.args.byte) o.heap.accepted o.is (let inside = c.in_ok-check_range.ensures.ok in let many = length-replicate {A = ℕ} c.args.count c.args.byte in omega arith) c.fill.ensures.made)

pub returns-clause-does : goal.returns-clause-does
returns-clause-does c =
    let o = c.in_ok-found.ensures.may_write in
    let a = overwrites o c.args.at (replicate c.args.count c.args.byte) c.fill.ensures.rest (let inside = c.in_ok-check_range.ensures.ok in let many = length-replicate {A = ℕ} c.args.count c.args.byte in omega arith) c.fill.ensures.made in
    rw (← c.self.view_is) (alters_does o.owned.heap a.0 a.1 (write_passes o c.args.at c.args.count c.in_ok-check_range.ensures.ok, (tt, a.0.leaves.map)) a.0.leaves.frame tt c.fill.ensures.rest)
