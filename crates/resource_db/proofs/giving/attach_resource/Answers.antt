-- The index is the count of the entries. A refusal of the entry is one of the call, which has
-- changed nothing.
use Rattle.resource_db.proofs.Words.{◌≡◌, ℕ, length, refl, ap, subst, ◌∙◌, inr, Entry, a_resource, store_of, entries_in, entry_attached, raised, Number, Db, refused, handed_on, changes, LeavesAttached, LeavesChanged}
use Rattle.palm_store.specs.declared.entries.infos.EntryInfo.TheVariants as given_as
use Rattle.resource_db.proofs.giving.attach_resource.Goals as goal

pub returns-in_err-entry_attach-clause-does : goal.returns-in_err-entry_attach-clause-does
returns-in_err-entry_attach-clause-does c =
    let none = c.in_ok-opened.ensures.passes in
    let given = c.in_ok-check_given.ensures.could in
    let e = c.from_residual-in_err-entry_attach.ensures in
    handed_on (λ (number : ℕ). Number number) _ c.from_residual-in_err-entry_attach.result (e.0, e.1) (rw c.in_err-entry_attach.ensures.refused (refused _ _ c.in_err-entry_attach.field-0.0 c.in_ok-opened.ensures.accepted
    (inr (none.0, inr (none.1.0, inr (none.1.1.0, inr (given.0, inr (given.1.0, inr (given.1.1.0, rw c.in_ok-opened.ensures.db at c.in_err-entry_attach.ensures.why)))))))))

pub returns-clause-does : goal.returns-clause-does
returns-clause-does c =
    let none = c.in_ok-opened.ensures.passes in
    let given = c.in_ok-check_given.ensures.could in
    let same = c.in_ok-opened.ensures.db in
    let at : c.in_ok-opened.opened.entry_count ≡ length (entries_in (store_of c.args.store.now.bytes) c.args.db) = c.in_ok-opened.ensures.opened.count ∙ ap (λ (db : Db). length (entries_in (store_of c.args.store.now.bytes) db)) same in
    let attached = subst (λ (db : Db). LeavesAttached c.args.store.now c.entry_attach.new.self db c.in_ok-opened.opened.entry_count (given_as.Resource c.args.kind c.args.id) c.args.name.0) same c.in_ok-entry_attach.ensures.attached in
    let leaves = subst (λ (entry : Entry ℕ). LeavesChanged c.args.store.now c.entry_attach.new.self (λ store. raised (entry_attached store c.args.db c.in_ok-opened.opened.entry_count entry) c.args.db)) attached.1 attached.2 in
    let last = subst (λ (index : ℕ). LeavesChanged c.args.store.now c.entry_attach.new.self (λ store. raised (entry_attached store c.args.db index (a_resource c.args.kind c.args.id c.args.name.0)) c.args.db)) at leaves in
    changes _ _ _ _ _ (λ slots. refl) c.in_ok-opened.ensures.accepted last
    ((none.0, (none.1.0, (none.1.1.0, (given.0, (given.1.0, (given.1.1.0, rw same at c.in_ok-entry_attach.ensures.could)))))), (at, last.same)) c.entry_attach.ensures.kept.loan tt c.entry_attach.ensures.kept.rest
