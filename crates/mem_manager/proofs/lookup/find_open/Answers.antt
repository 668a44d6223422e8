-- What is found is a caller's chunk that is locked or fixed, and not lent. Else the first check refuses.
use Rattle.mem_manager.proofs.Laws.{inl, inr, refl, also_out_checks, lent_of}
use Rattle.mem_manager.proofs.StepWords.{has_lock, is_out, has_chunk, no_lock, one_of, refuses}
use Rattle.mem_manager.proofs.lookup.find_open.Goals as goal

pub returns-in_err-found-clause-why : goal.returns-in_err-found-clause-why
returns-in_err-found-clause-why c = refuses (also_out_checks c.args.space.now c.args.name.0) c.from_residual.result c.from_residual.ensures c.in_err-found.ensures.refusal (inl (c.in_err-found.ensures.none, refl))

pub returns-in_err-check_locked-clause-why : goal.returns-in_err-check_locked-clause-why
returns-in_err-check_locked-clause-why c =
    let o = c.in_ok-found.ensures.callers in let e = c.from_residual-in_err-check_locked in
    refuses (also_out_checks c.args.space.now c.args.name.0) e.result e.ensures c.in_err-check_locked.ensures.refusal (inr (has_chunk o, inl (has_lock o 0 c.in_err-check_locked.ensures.err, refl)))

pub returns-in_err-check_here-clause-why : goal.returns-in_err-check_here-clause-why
returns-in_err-check_here-clause-why c =
    let failed = c.in_err-check_here.ensures in let o = c.in_ok-found.ensures.callers in
    let e = c.from_residual-in_err-check_here in
    let out = is_out o (lent_of c.args.space.now o.heap.accepted o.is failed.err) in
    refuses (also_out_checks c.args.space.now c.args.name.0) e.result e.ensures failed.refusal
    (inr (has_chunk o, inr (no_lock o 0 c.in_ok-check_locked.ensures.ok, inl (out, refl))))

pub check_here-requires : goal.check_here-requires
check_here-requires c = record { found = one_of c.in_ok-found.ensures.found }

pub returns-clause-may_write : goal.returns-clause-may_write
returns-clause-may_write c = record { owned = c.in_ok-found.ensures.callers; locked = c.in_ok-check_locked.ensures.ok; other = c.in_ok-check_here.ensures.ok }
