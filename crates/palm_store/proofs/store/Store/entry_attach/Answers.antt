-- The new entry is the one asked for, with the given chunk; a refusal has changed nothing.
use Rattle.palm_store.proofs.Laws.{◌<◌, ◌∙◌, arith, inl, inr, ℕ, List, length, ◌≤◌, ◌≡◌, most_entries, entries_in, resources_under, store_of, FirstBrings, entry_of, Entry, entry_with, IsOpened, KnownIds, makes_resource, MayBeGiven, checks_of_attaching, if_err, come_free, beside_named, attach_leaves, attach_steps}
use Rattle.palm_store.proofs.OpenedHere.{opened_in}
use Rattle.palm_store.proofs.store.Store.entry_attach.Goals as goal

pub returns-in_err-take_in-clause-why : goal.returns-in_err-take_in-clause-why
returns-in_err-take_in-clause-why c =
    let count = (opened_in c.self.view_is c.requires.opened).count in
    let below = c.if-opened-ge-MOST_ENTRIES.false in
    let e = c.from_residual.ensures in
    let no = c.in_err-take_in.ensures in
    rw (← c.self.view_is)
    (if_err (FirstBrings (checks_of_attaching c.self.inside.heap.bytes c.args.opened.db)) _ (e.0, e.1)
    (inr ((λ full. omega (arith, count, below, full)), inl (inr no.no_room, no.refusal))))

pub returns-clause-attached : goal.returns-clause-attached
returns-clause-attached c =
    let opened = opened_in c.self.view_is c.requires.opened in
    let below = c.if-opened-ge-MOST_ENTRIES.false in
    let new = c.new_entry-made.ensures in
    let ok = c.in_ok-take_in.ensures in
    rw (← c.self.view_is)
    (attach_steps _ _ _ _ _ (entry_of c.new_entry-made.result.0) _ _ c.self.invariant.accepted opened.number
    new.is (rw c.self.view_is c.requires.given) ok.takes (new.kind ∙ rw c.self.view_is c.requires.kind)
    (ok.name_fits new.fits) (rw c.self.view_is c.requires.inside) (omega (arith, opened.count, below)))

pub invariant_of-self-2 : goal.invariant_of-self-2
invariant_of-self-2 c =
    let opened : IsOpened c.self.inside.heap.bytes c.args.opened = rw c.self.view_is c.requires.opened in
    let inside : c.args.at ≤ length (entries_in (store_of c.self.inside.heap.bytes) c.args.opened.db) = rw c.self.view_is c.requires.inside in
    let kind : makes_resource c.args.entry ≡ resources_under (store_of c.self.inside.heap.bytes) c.args.opened.db = rw c.self.view_is c.requires.kind in
    let may : MayBeGiven c.self.inside.heap.bytes c.args.name.0 = rw c.self.view_is c.requires.given in
    let image : List ℕ = c.self.inside.heap.bytes in
    let count = opened.count in
    let below = c.if-opened-ge-MOST_ENTRIES.false in
    let few : length (entries_in (store_of image) c.args.opened.db) < most_entries = omega (arith, count, below) in
    let left = (attach_leaves image c.take_in.new.heap.bytes c.args.opened.db c.args.at c.args.entry (entry_of c.new_entry-made.result.0) _ c.args.name.0 c.self.invariant.accepted opened.number c.new_entry-made.ensures.is may c.in_ok-take_in.ensures.takes
    (c.new_entry-made.ensures.kind ∙ kind) (c.in_ok-take_in.ensures.name_fits c.new_entry-made.ensures.fits) inside few) in
    let made : Entry ℕ = entry_with (λ none. c.args.name.0) (entry_of c.new_entry-made.result.0) in
    let known : KnownIds = c.new_entry-made.result.1 in
    let beside = beside_named (store_of image) (entry_of c.new_entry-made.result.0) c.args.name.0 known c.new_entry-made.ensures.known in
    record { accepted = left.accepted; free = come_free (store_of image) (store_of c.take_in.new.heap.bytes) c.args.opened.db.0 c.args.at made known left.same.databases beside }

pub returns-clause-kept : goal.returns-clause-kept
returns-clause-kept c = rw (← c.self.view_is) c.take_in.ensures.kept

pub returns-in_err-take_in-clause-kept : goal.returns-in_err-take_in-clause-kept
returns-in_err-take_in-clause-kept c = rw (← c.self.view_is) c.take_in.ensures.kept
