-- A refusal of the entry is one of the call, which leaves the store as it was.
use Rattle.resource_db.proofs.Words.{refl, inr, store_of, Refused, changes, handed_on, made_reply}
use Rattle.resource_db.proofs.making.new_resource.Goals as goal

pub returns-in_err-name-clause-does : goal.returns-in_err-name-clause-does
returns-in_err-name-clause-does c =
    let none = c.in_ok-opened.ensures.passes in
    let left = c.in_err-name.ensures in
    let e = c.from_residual-in_err-name.ensures in
    handed_on made_reply _ c.from_residual-in_err-name.result (e.0, e.1) (changes _ _ _ (Refused c.in_err-name.field-0.0) (store_of c.args.store.now.bytes) (λ slots. refl) c.in_ok-opened.ensures.accepted left.refused
    (inr (none.0, inr (none.1.0, inr (none.1.1.0, rw c.in_ok-opened.ensures.db at left.why))), left.as_before) left.kept.loan tt left.kept.rest)
