-- The call is refused if the record is busy. Otherwise it sets the busy bit.
use Rattle.record_db.proofs.Words.{◌≡◌, ℕ, false, true, Option, refl, sym, ap, subst, bit_or, ◌∙◌, inl, inr, Entry, store_of, entry_under, entry_changed, with_attributes, OfEntry, data_of_entry, Db, LeavesChanged, busy_bit, is_busy, HasAttributes, Get, Named, RecordBusy, refused, changes, both_ways}
use Rattle.heap_model.specs.declared.call.Call.TheVariants as calls
use Rattle.record_db.proofs.changing.get.Goals as goal

pub returns-then-is_busy-clause-does : goal.returns-then-is_busy-clause-does
returns-then-is_busy-clause-does c =
    let found = c.in_ok-live.ensures in
    let none = found.passes in
    refused _ _ _ found.accepted (inr (none.0, inr (none.1.0, inr (none.1.1.0, inr (none.1.1.1.0, inl (rw found.is (sym c.is_busy.ensures ∙ c.if-is_busy.true), refl))))))

pub returns-clause-does : goal.returns-clause-does
returns-clause-does c =
    let found = c.in_ok-live.ensures in
    let none = found.passes in
    let leaves = rw found.found.db at c.mark.ensures.marked in
    changes _ _ _ _ _ (λ slots. refl) found.accepted leaves
    ((none.0, (none.1.0, (none.1.1.0, (none.1.1.1.0, (rw found.is (both_ways _ (sym c.is_busy.ensures ∙ c.if-is_busy.false)), tt))))), (sym (ap data_of_entry found.is), leaves.same)) c.mark.ensures.kept.loan tt c.mark.ensures.kept.rest
