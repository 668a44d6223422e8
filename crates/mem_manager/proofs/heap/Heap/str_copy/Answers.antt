-- A text is written over bytes of an open chunk, or the checks refuse it.
use Rattle.mem_manager.proofs.Laws.{◌≡◌, ◌+◌, ◌++◌, [], ◌∷◌, length, ap, arith, length-append, refl, sym, not, ℕ, List, ◌∙◌, text_of, Reply, take_while, ◌==◌, write_beyond, write_changes, write_refused, write_passes, overwrites}
use Rattle.mem_manager.proofs.StepWords.{with_names, one_of, alters_does, answers_inside, managed_changed}
use Rattle.mem_manager.proofs.heap.Heap.str_copy.Goals as goal

-- the text that is written
texts : (part text : List ℕ) → part ≡ take_while (λ byte. not (byte == 0)) text
    → part ++ 0 ∷ [] ≡ text_of text
texts part text is = ap (λ (x : List ℕ). x ++ 0 ∷ []) is

ends : (part text : List ℕ) → part ≡ take_while (λ byte. not (byte == 0)) text
    → length (text_of text) ≡ length part + 1
ends part text is = ap length (sym (texts part text is)) ∙ length-append part (0 ∷ [])

pub returns-in_err-found-clause-does : goal.returns-in_err-found-clause-does
returns-in_err-found-clause-does c =
    answers_inside (λ done. Reply.Done) c.from_residual.result c.self.view_is c.from_residual.ensures refl c.self.invariant.heap.accepted (write_refused c.self.inside.space c.args.name.0 c.args.at (length (text_of c.args.text.now)) c.in_err-found.ensures.why)

pub invariant_of-self : goal.invariant_of-self
invariant_of-self c = with_names c.self.invariant c.find_open.ensures.remembered

pub returns-in_err-check_ended_range-clause-does : goal.returns-in_err-check_ended_range-clause-does
returns-in_err-check_ended_range-clause-does c =
    let beyond = c.in_err-check_ended_range.ensures.err in
    let long = ends c.before_zero-part.result.now c.args.text.now c.before_zero-part.ensures in
    let e = c.from_residual-in_err-check_ended_range in
    answers_inside (λ done. Reply.Done) e.result c.self.view_is e.ensures
    c.in_err-check_ended_range.ensures.refusal c.self.invariant.heap.accepted
    (write_beyond c.in_ok-found.ensures.may_write c.args.at (length (text_of c.args.text.now)) (omega (arith, long, beyond)))

pub write_ended-requires-clause-found : goal.write_ended-requires-clause-found
write_ended-requires-clause-found c = one_of c.in_ok-found.ensures.found

pub write_ended-requires-clause-within : goal.write_ended-requires-clause-within
write_ended-requires-clause-within c =
    let inside = c.in_ok-check_ended_range.ensures.ok in omega arith

pub write_ended-requires-clause-other : goal.write_ended-requires-clause-other
write_ended-requires-clause-other c = c.in_ok-found.ensures.may_write.other

pub invariant_of-self-2 : goal.invariant_of-self-2
invariant_of-self-2 c =
    let ended = c.write_ended.ensures in let o = c.in_ok-found.ensures.may_write.owned in
    let inside = c.in_ok-check_ended_range.ensures.ok in
    let long = length-append c.before_zero-part.result.now (0 ∷ []) in
    managed_changed (with_names c.self.invariant c.find_open.ensures.remembered) ended.heap
    (write_changes c.args.at (c.before_zero-part.result.now ++ 0 ∷ []) o.heap.accepted o.is (omega (arith, inside, long)) ended.made)

pub returns-clause-does : goal.returns-clause-does
returns-clause-does c =
    let o = c.in_ok-found.ensures.may_write in let inside = c.in_ok-check_ended_range.ensures.ok in
    let long = ends c.before_zero-part.result.now c.args.text.now c.before_zero-part.ensures in
    let made = rw (texts c.before_zero-part.result.now c.args.text.now c.before_zero-part.ensures) at c.write_ended.ensures.made in
    let a = overwrites o c.args.at (text_of c.args.text.now) c.write_ended.ensures.rest
    (omega (arith, inside, long)) made in
    rw (← c.self.view_is) (alters_does o.owned.heap a.0 a.1 (write_passes o c.args.at (length (text_of c.args.text.now)) (λ beyond. inside (omega (arith, long, beyond))), (tt, a.0.leaves.map)) a.0.leaves.frame tt c.write_ended.ensures.rest)
