-- What came is the entry that was asked for; what was refused has left the store as it was.
use Rattle.palm_store.proofs.Laws.{◌<◌, ◌∙◌, arith, inl, inr, ℕ, List, length, ◌≤◌, ◌≡◌, most_entries, entries_in, resources_under, store_of, entry_of, same_steps, on_err, if_err, FirstBrings, checks_of_making, makes_resource, Entry, entry_with, IsOpened, KnownIds, new_leaves, new_steps, left_as_before, come_free, beside_named, refl}
use Rattle.palm_store.proofs.OpenedHere.{opened_in, still_store}
use Rattle.palm_store.proofs.store.Store.entry_new.Goals as goal

pub invariant_of-self : goal.invariant_of-self
invariant_of-self c =
    still_store (same_steps _ _ c.self.invariant.accepted c.in_err-name.ensures.refused) refl c.self.invariant

pub returns-in_err-name-clause-why : goal.returns-in_err-name-clause-why
returns-in_err-name-clause-why c =
    let count = (opened_in c.self.view_is c.requires.opened).count in
    let below = c.if-opened-ge-MOST_ENTRIES.false in
    let e = c.from_residual.ensures in
    let no = c.in_err-name.ensures in
    rw (← c.self.view_is)
    (if_err (FirstBrings (checks_of_making c.self.inside.heap.bytes c.args.opened.db c.args.size)) _ (e.0, e.1)
    (inr ((λ full. omega (arith, count, below, full)), inl (no.no_room, no.refusal))))

pub returns-in_err-name-clause-refused : goal.returns-in_err-name-clause-refused
returns-in_err-name-clause-refused c =
    rw (← c.self.view_is)
    (on_err _ _ (same_steps _ _ c.self.invariant.accepted c.in_err-name.ensures.refused))

pub returns-in_err-name-clause-as_before : goal.returns-in_err-name-clause-as_before
returns-in_err-name-clause-as_before c =
    rw (← c.self.view_is)
    (on_err _ _ (left_as_before _ _ c.self.invariant.accepted c.in_err-name.ensures.refused))

pub returns-clause-made : goal.returns-clause-made
returns-clause-made c =
    let opened = opened_in c.self.view_is c.requires.opened in
    let below = c.if-opened-ge-MOST_ENTRIES.false in
    let new = c.new_entry-made.ensures in
    let ok = c.in_ok-name.ensures in
    rw (← c.self.view_is)
    (new_steps _ _ _ _ _ (entry_of c.new_entry-made.result.0) _ _ _ c.self.invariant.accepted opened.number
    new.is ok.puts (new.kind ∙ rw c.self.view_is c.requires.kind) (ok.name_fits new.fits)
    (rw c.self.view_is c.requires.inside) (omega (arith, opened.count, below)))

pub invariant_of-self-2 : goal.invariant_of-self-2
invariant_of-self-2 c =
    let opened : IsOpened c.self.inside.heap.bytes c.args.opened = rw c.self.view_is c.requires.opened in
    let inside : c.args.at ≤ length (entries_in (store_of c.self.inside.heap.bytes) c.args.opened.db) = rw c.self.view_is c.requires.inside in
    let kind : makes_resource c.args.entry ≡ resources_under (store_of c.self.inside.heap.bytes) c.args.opened.db = rw c.self.view_is c.requires.kind in
    let image : List ℕ = c.self.inside.heap.bytes in
    let count = opened.count in
    let below = c.if-opened-ge-MOST_ENTRIES.false in
    let few : length (entries_in (store_of image) c.args.opened.db) < most_entries = omega (arith, count, below) in
    let left = (new_leaves image c.put_in.new.heap.bytes c.args.opened.db c.args.at c.args.entry (entry_of c.new_entry-made.result.0) _ c.in_ok-name.name.0 c.args.size c.self.invariant.accepted opened.number c.new_entry-made.ensures.is c.in_ok-name.ensures.puts
    (c.new_entry-made.ensures.kind ∙ kind) (c.in_ok-name.ensures.name_fits c.new_entry-made.ensures.fits) inside few) in
    let made : Entry ℕ = entry_with (λ none. c.in_ok-name.name.0) (entry_of c.new_entry-made.result.0) in
    let known : KnownIds = c.new_entry-made.result.1 in
    let beside = beside_named (store_of image) (entry_of c.new_entry-made.result.0) c.in_ok-name.name.0 known c.new_entry-made.ensures.known in
    record { accepted = left.accepted; free = come_free (store_of image) (store_of c.put_in.new.heap.bytes) c.args.opened.db.0 c.args.at made known left.same.databases beside }

pub returns-clause-kept : goal.returns-clause-kept
returns-clause-kept c = rw (← c.self.view_is) c.put_in.ensures.kept

pub returns-in_err-name-clause-kept : goal.returns-in_err-name-clause-kept
returns-in_err-name-clause-kept c = rw (← c.self.view_is) c.put_in.ensures.kept
