-- The bytes of a chunk are read that lie within it, or the checks refuse it.
use Rattle.mem_manager.proofs.Laws.{◌+◌, ap, ◌∙◌, arith, inl, refl, inr, slice_range, Memory, Reply, one_body_within, read_known, here_of, lent_of}
use Rattle.mem_manager.proofs.StepWords.{one_of, has_chunk, answers, reaches, is_out, not_out}
use Rattle.mem_manager.proofs.heap.Heap.read.Goals as goal

pub returns-in_err-check_range-clause-does : goal.returns-in_err-check_range-clause-does
returns-in_err-check_range-clause-does c =
    let failed = c.in_err-check_range.ensures in let h = c.self.invariant.heap.accepted in
    let o = c.in_ok-found.ensures.callers in let e = c.from_residual-in_err-check_range in
    let here = not_out o (here_of o.heap o.is c.in_ok-check_here_in_line.ensures.ok) in
    answers (λ bytes. Reply.Data bytes.now) e.result c.self.view_is e.ensures failed.refusal h
    (inr (has_chunk o, inr (here, inl (reaches o c.args.at c.args.count failed.err, refl))))

pub returns-in_err-check_here_in_line-clause-does : goal.returns-in_err-check_here_in_line-clause-does
returns-in_err-check_here_in_line-clause-does c =
    let err = c.in_err-check_here_in_line.ensures.err in let o = c.in_ok-found.ensures.callers in
    let e = c.from_residual-in_err-check_here_in_line in
    answers (λ bytes. Reply.Data bytes.now) e.result c.self.view_is e.ensures
    c.in_err-check_here_in_line.ensures.refusal c.self.invariant.heap.accepted
    (inr (has_chunk o, inl (is_out o (lent_of c.self.inside.space o.heap.accepted o.is err), refl)))

pub slice-requires : goal.slice-requires
slice-requires c =
    let o = c.in_ok-found.ensures.callers in let inside = c.in_ok-check_range.ensures.ok in
    rw c.region.ensures.same
    (one_body_within c.self.inside.space c.in_ok-found.found c.args.at c.args.count o.heap.accepted o.heap.lent (one_of o.is) c.in_ok-check_here_in_line.ensures.ok (omega (arith, inside)))

pub returns-clause-does : goal.returns-clause-does
returns-clause-does c =
    let same = c.region.ensures.same in let o = c.in_ok-found.ensures.callers in
    let at = c.in_ok-found.found.place.0 + c.args.at in
    rw (← c.self.view_is)
    (read_known o c.args.at c.args.count c.slice.result.now (here_of o.heap o.is c.in_ok-check_here_in_line.ensures.ok) c.in_ok-check_range.ensures.ok
    (c.slice.ensures ∙ ap (λ (m : Memory). slice_range m.bytes at (at + c.args.count)) same))
