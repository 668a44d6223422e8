-- A chunk without a lock is freed, or its checks refuse it.
use Rattle.mem_manager.proofs.Laws.{lent_of, here_of, arith, inr, refl, inl, ◌<◌, subst, Reply, Memory, IsCallers, not_the_directory, freed}
use Rattle.mem_manager.proofs.StepWords.{one_of, has_chunk, is_data, is_out, no_data, is_locked, not_locked, answers, refused, callers_viewed}
use Rattle.mem_manager.proofs.heap.Heap.free_found.Goals as goal

pub returns-in_err-check_callers-clause-does : goal.returns-in_err-check_callers-clause-does
returns-in_err-check_callers-clause-does c =
    let view = c.self.view_is in
    let o = callers_viewed view c.self.invariant.heap c.requires.found c.requires.callers in
    answers (λ done. Reply.Done) c.from_residual.result view c.from_residual.ensures
    c.in_err-check_callers.ensures.refusal o.heap.accepted
    (inr (has_chunk o, inl (is_data o c.in_err-check_callers.ensures.err, refl)))

pub returns-then-found-lt-FIXED_LOCK-clause-does : goal.returns-then-found-lt-FIXED_LOCK-clause-does
returns-then-found-lt-FIXED_LOCK-clause-does c =
    let view = c.self.view_is in
    let o = callers_viewed view c.self.invariant.heap c.requires.found c.requires.callers in
    rw (← view) (refused o.heap.accepted
    (inr (has_chunk o, inr (no_data o c.in_ok-check_callers.ensures.ok, inl (is_locked o c.if-found-gt0.true c.if-found-lt-FIXED_LOCK.true, refl)))))

pub check_here-requires : goal.check_here-requires
check_here-requires c = record { found = one_of (callers_viewed c.self.view_is c.self.invariant.heap c.requires.found c.requires.callers).is }

pub give_back-requires-clause-no_directory : goal.give_back-requires-clause-no_directory
give_back-requires-clause-no_directory c =
    let view = c.self.view_is in
    let o = callers_viewed view c.self.invariant.heap c.requires.found c.requires.callers in
    rw (← view) (not_the_directory o)

pub give_back-requires-clause-other : goal.give_back-requires-clause-other
give_back-requires-clause-other c = rw (← c.self.view_is) c.in_ok-check_here.ensures.ok

pub returns-clause-does : goal.returns-clause-does
returns-clause-does c =
    let view = c.self.view_is in let lock = c.args.found.lock in
    let o = callers_viewed view c.self.invariant.heap c.requires.found c.requires.callers in
    let v = subst (λ (m : Memory). IsCallers m c.args.name.0 c.args.found) view o in
    let here = here_of o.heap o.is c.in_ok-check_here.ensures.ok in
    let unlocked : 0 < lock → lock < 15 → ⊥ = elim c.else-found-gt0.branch [
      | goal.else-found-gt0-via-then-found-gt0+else-found-lt-FIXED_LOCK w ↦ λ some below. let not_below = w.if-found-lt-FIXED_LOCK.false in omega arith
      | goal.else-found-gt0-via-else-found-gt0 w ↦ λ some below. let none = w.if-found-gt0.false in
          omega arith
    ] in
    let g = c.give_back.ensures in
    freed v c.in_ok-check_callers.ensures.ok unlocked
    (λ lent. here (rw (← view) at lent)) g.leaves g.loan g.rest

pub returns-in_err-check_here-clause-does : goal.returns-in_err-check_here-clause-does
returns-in_err-check_here-clause-does c =
    let failed = c.in_err-check_here.ensures in let ok = c.in_ok-check_callers.ensures.ok in
    let lock = c.args.found.lock in
    let o =
    callers_viewed c.self.view_is c.self.invariant.heap c.requires.found c.requires.callers in
    let e = c.from_residual-in_err-check_here in
    let out = is_out o (lent_of c.self.inside.space o.heap.accepted o.is failed.err) in
    let unlocked : 0 < lock → lock < 15 → ⊥ = elim c.else-found-gt0.branch [
      | goal.else-found-gt0-via-then-found-gt0+else-found-lt-FIXED_LOCK w ↦ λ some below. let not_below = w.if-found-lt-FIXED_LOCK.false in omega arith
      | goal.else-found-gt0-via-else-found-gt0 w ↦ λ some below. let none = w.if-found-gt0.false in
          omega arith
    ] in
    answers (λ done. Reply.Done) e.result c.self.view_is e.ensures failed.refusal o.heap.accepted
    (inr (has_chunk o, inr (no_data o ok, inr (not_locked o unlocked, inl (out, refl)))))
