-- A loan is made if none is out. Else the first check refuses.
use Rattle.mem_manager.proofs.Words.{refl, inr, [], ◌≢◌, inl, both_ways, out_checks}
use Rattle.mem_manager.proofs.StepWords.{has_lock, has_chunk, no_lock, refuses}
use Rattle.mem_manager.proofs.heap.Heap.take_out.Goals as goal

pub returns-in_err-check_locked-clause-why : goal.returns-in_err-check_locked-clause-why
returns-in_err-check_locked-clause-why c =
    let o = c.in_ok-found.ensures.callers in let e = c.from_residual-in_err-check_locked in
    rw (← c.self.view_is) (refuses (out_checks c.self.inside.space c.args.name.0) e.result e.ensures c.in_err-check_locked.ensures.refusal (inr (has_chunk o, inl (has_lock o 0 c.in_err-check_locked.ensures.err, refl))))

pub returns-then-not-is_whole-clause-why : goal.returns-then-not-is_whole-clause-why
returns-then-not-is_whole-clause-why c =
    let ok = c.in_ok-check_locked.ensures.ok in let o = c.in_ok-found.ensures.callers in
    let out : c.self.inside.space.lents ≢ [] =
    λ whole. both_ways c.is_whole.result c.if-not-is_whole.true (c.is_whole.ensures.1 whole) in
    rw (← c.self.view_is) (inr (has_chunk o, inr (no_lock o 0 ok, inl (out, refl))))
