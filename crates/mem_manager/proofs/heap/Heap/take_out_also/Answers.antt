-- A loan of an open chunk is made. Else the first check refuses.
use Rattle.mem_manager.proofs.Words.{ℕ, replicate, refl, length-replicate, also_out_checks}
use Rattle.mem_manager.proofs.StepWords.{refuses, one_of, with_names, managed_changed}
use Rattle.mem_manager.proofs.LoanCalls.{out_changes, made_out}
use Rattle.mem_manager.proofs.heap.Heap.take_out_also.Goals as goal

pub returns-in_err-found-clause-why : goal.returns-in_err-found-clause-why
returns-in_err-found-clause-why c = rw (← c.self.view_is) (refuses (also_out_checks c.self.inside.space c.args.name.0) c.from_residual.result c.from_residual.ensures refl c.in_err-found.ensures.why)

pub invariant_of-self : goal.invariant_of-self
invariant_of-self c = with_names c.self.invariant c.find_open.ensures.remembered

pub lend-part-requires-clause-found : goal.lend-part-requires-clause-found
lend-part-requires-clause-found c = one_of c.in_ok-found.ensures.found

pub lend-part-requires-clause-other : goal.lend-part-requires-clause-other
lend-part-requires-clause-other c = c.in_ok-found.ensures.may_write.other

pub invariant_of-self-2 : goal.invariant_of-self-2
invariant_of-self-2 c =
    let part_is = c.lend-part.ensures in let length = c.in_ok-found.found.length in
    let o = c.in_ok-found.ensures.may_write.owned in let zeros = replicate length 0 in
    managed_changed (with_names c.self.invariant c.find_open.ensures.remembered) part_is.heap
    (out_changes zeros o.heap.accepted o.is (length-replicate {A = ℕ} length 0) part_is.made)

pub returns-clause-taken : goal.returns-clause-taken
returns-clause-taken c =
    rw (← c.self.view_is) (made_out c.in_ok-found.ensures.may_write c.lend-part.result c.lend-part.ensures.part c.lend-part.ensures.made c.lend-part.ensures.out c.lend-part.ensures.rest)
