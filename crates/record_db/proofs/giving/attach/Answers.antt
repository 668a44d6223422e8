-- A refusal of the entry is one of the call, which has changed nothing.
use Rattle.record_db.proofs.Words.{ℕ, sym, subst, inr, Memory, FirstBrings, DoesInStore, Attach, Number, Refused, Db, Refusal, refused, handed_on, checks_of_attaching}
use Rattle.heap_model.specs.declared.call.Call.TheVariants as calls
use Rattle.record_db.proofs.giving.attach.Goals as goal

pub returns-in_err-entry_attach-clause-does : goal.returns-in_err-entry_attach-clause-does
returns-in_err-entry_attach-clause-does c =
    let none = c.in_ok-opened.ensures.passes in
    let given = c.in_ok-check_given.ensures.could in
    let e = c.from_residual-in_err-entry_attach.ensures in
    handed_on (λ (number : ℕ). Number number) _ c.from_residual-in_err-entry_attach.result (e.0, e.1) (rw c.in_err-entry_attach.ensures.refused (refused _ _ c.in_err-entry_attach.field-0.0 c.in_ok-opened.ensures.accepted
    (inr (none.0, inr (none.1.0, inr (none.1.1.0, inr (given.0, inr (given.1.0, inr (given.1.1.0, rw c.in_ok-opened.ensures.db at c.in_err-entry_attach.ensures.why)))))))))
