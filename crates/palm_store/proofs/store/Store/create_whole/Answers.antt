-- The name is new and there is room for a database: all is made and written, or nothing changed.
use Rattle.palm_store.proofs.Laws.{refl, ap, subst, ◌∙◌, ◌<◌, ◌≤◌, inl, inr, ℕ, List, length, replicate, length-replicate, length-map, FirstBrings, spelled, listed, most_databases, store_of, IsTaken, Name, on_err, if_err, same_steps, whole_parts, whole_slots, data_sizes, numbers_in, whole_database, RunsOut, MakesWhole, checks_of_whole, slides_then, none_slid, bytes_held, owner_held, chunk_of, not_taken, below_most, most_there, left_as_before, whole_written, nothing_known}
use Rattle.palm_store.proofs.WholeSteps.{whole_made, few_listed, size_asked}
use Rattle.palm_store.proofs.store.Store.create_whole.Goals as goal

pub returns-then-count_databases-ge-MOST_DATABASES-clause-why : goal.returns-then-count_databases-ge-MOST_DATABASES-clause-why
returns-then-count_databases-ge-MOST_DATABASES-clause-why c =
    let image : List ℕ = c.self.inside.heap.bytes in
    let free : IsTaken (store_of image) 0 c.args.info.now.name → ⊥ = not_taken image _ c.args.info.now.name 0 _ c.has_other_name.ensures.1 c.if-has_other_name.false c.as_slice.ensures.is in
    let many : most_databases ≤ length (listed image) = subst (λ (n : ℕ). most_databases ≤ n) c.count_databases.ensures c.if-count_databases-ge-MOST_DATABASES.true in
    rw (← c.self.view_is) (inr (free, inl (most_there image many, refl)))

pub invariant_of-self : goal.invariant_of-self
invariant_of-self c = nothing_known _ (same_steps c.self.inside.heap.bytes c.list_whole.new.heap.bytes c.self.invariant.accepted c.in_err-slot.ensures.refused).accepted

pub returns-in_err-slot-clause-why : goal.returns-in_err-slot-clause-why
returns-in_err-slot-clause-why c =
    let image : List ℕ = c.self.inside.heap.bytes in
    let free : IsTaken (store_of image) 0 c.args.info.now.name → ⊥ = not_taken image _ c.args.info.now.name 0 _ c.has_other_name.ensures.1 c.if-has_other_name.false c.as_slice.ensures.is in
    let few : length (listed image) < most_databases = subst (λ (n : ℕ). n < most_databases) c.count_databases.ensures c.if-count_databases-ge-MOST_DATABASES.false in
    let size = size_asked c.args.info.now c.args.entries.now c.has_resources-resources.result c.entry_offset-size.result c.has_resources-resources.ensures c.requires.whole.entry_count c.entry_offset-size.ensures in
    let lacks = subst (λ (bytes : ℕ). RunsOut image (whole_slots image (data_sizes c.args.blocks c.args.entries.now)) (whole_parts image bytes (data_sizes c.args.blocks c.args.entries.now))) size c.in_err-slot.ensures.no_room in
    let e = c.from_residual.ensures in
    rw (← c.self.view_is) (if_err (FirstBrings (checks_of_whole image c.args.info.now c.args.blocks c.args.entries.now)) c.from_residual.result (e.0, e.1)
    (inr (free, inr ((λ many. below_most image (few_listed image few) many), inl (lacks, c.in_err-slot.ensures.refusal)))))

pub returns-in_err-slot-clause-refused : goal.returns-in_err-slot-clause-refused
returns-in_err-slot-clause-refused c =
    rw (← c.self.view_is) (on_err _ c.from_residual.result (same_steps c.self.inside.heap.bytes c.list_whole.new.heap.bytes c.self.invariant.accepted c.in_err-slot.ensures.refused))

pub returns-in_err-slot-clause-as_before : goal.returns-in_err-slot-clause-as_before
returns-in_err-slot-clause-as_before c =
    rw (← c.self.view_is) (on_err _ c.from_residual.result (left_as_before c.self.inside.heap c.list_whole.new.heap c.self.invariant.accepted c.in_err-slot.ensures.refused))

pub write_whole-requires-clause-owner : goal.write_whole-requires-clause-owner
write_whole-requires-clause-owner c = owner_held c.list_whole.new.heap.bytes c.in_ok-slot.slot.0 (chunk_of (replicate c.entry_offset-size.result 0)) c.in_ok-slot.ensures.lists.chunk

pub write_whole-requires-clause-body : goal.write_whole-requires-clause-body
write_whole-requires-clause-body c =
    let size = size_asked c.args.info.now c.args.entries.now c.has_resources-resources.result c.entry_offset-size.result c.has_resources-resources.ensures c.requires.whole.entry_count c.entry_offset-size.ensures in
    ap length (bytes_held c.list_whole.new.heap.bytes c.in_ok-slot.slot.0 (chunk_of (replicate c.entry_offset-size.result 0)) c.in_ok-slot.ensures.lists.chunk)
    ∙ length-replicate {A = ℕ} c.entry_offset-size.result 0 ∙ size

made : (c : goal.After-write_whole) → MakesWhole c.self.inside.heap.bytes c.write_whole.new.heap.bytes c.in_ok-slot.slot.0 c.args.info.now c.args.blocks c.args.entries.now (numbers_in c.list_whole.new.names)
made c =
    let image : List ℕ = c.self.inside.heap.bytes in
    let names : List ℕ = numbers_in c.list_whole.new.names in
    let free : IsTaken (store_of image) 0 c.args.info.now.name → ⊥ = not_taken image _ c.args.info.now.name 0 _ c.has_other_name.ensures.1 c.if-has_other_name.false c.as_slice.ensures.is in
    let few : length (listed image) < most_databases = subst (λ (n : ℕ). n < most_databases) c.count_databases.ensures c.if-count_databases-ge-MOST_DATABASES.false in
    let many = length-map c.list_whole.new.names (λ (one : Name). one.0) in
    let written = whole_written image c.list_whole.new.heap.bytes c.write_whole.new.heap.bytes c.in_ok-slot.slot.0 (replicate c.entry_offset-size.result 0) (spelled (whole_database c.args.info.now c.args.entries.now names)) (data_sizes c.args.blocks c.args.entries.now) names
    c.self.invariant.accepted.heap c.in_ok-slot.ensures.lists c.write_whole.ensures.written in
    whole_made image c.write_whole.new.heap.bytes c.in_ok-slot.slot.0 c.args.info.now c.args.blocks c.args.entries.now names c.self.invariant.accepted written c.write_whole.ensures.fits c.requires.whole (many ∙ c.in_ok-slot.ensures.names ∙ c.requires.names) (few_listed image few) free

pub invariant_of-self-2 : goal.invariant_of-self-2
invariant_of-self-2 c = nothing_known _ (made c).accepted

pub returns-clause-made : goal.returns-clause-made
returns-clause-made c = rw (← c.self.view_is) (made c)

pub returns-clause-could : goal.returns-clause-could
returns-clause-could c =
    let image : List ℕ = c.self.inside.heap.bytes in
    let free : IsTaken (store_of image) 0 c.args.info.now.name → ⊥ = not_taken image _ c.args.info.now.name 0 _ c.has_other_name.ensures.1 c.if-has_other_name.false c.as_slice.ensures.is in
    let few : length (listed image) < most_databases = subst (λ (n : ℕ). n < most_databases) c.count_databases.ensures c.if-count_databases-ge-MOST_DATABASES.false in
    rw (← c.self.view_is) (free, ((λ many. below_most image (few_listed image few) many), (tt, tt)))

pub returns-in_err-slot-clause-kept : goal.returns-in_err-slot-clause-kept
returns-in_err-slot-clause-kept c = rw (← c.self.view_is) c.list_whole.ensures.kept

pub returns-clause-kept : goal.returns-clause-kept
returns-clause-kept c =
    rw (← c.self.view_is) (slides_then _ _ _ c.list_whole.ensures.kept
    (none_slid _ _ c.write_whole.ensures.kept))
