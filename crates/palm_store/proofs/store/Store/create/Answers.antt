-- The name is new and there is room for a database: its header is written, or nothing changed.
use Rattle.palm_store.proofs.Laws.{refl, ap, sym, subst, ◌∙◌, ◌≡◌, ◌<◌, ◌≤◌, arith, ℕ, List, length, replicate, length-replicate, header_size, Database, IsDatabaseName, DatabaseFits, header_bytes, spelled, listed, most_databases, store_of, IsTaken, empty_database, Create, handed_on, length-header_bytes, ListsNew, keeps_then, bytes_held, chunk_of, loose_movable, not_taken, not_named, name_taken, too_many, header_put, created, not_created, empty_fits, header_spells, viewed, ask_viewed, nothing_known, then_written, owned_here}
use Rattle.heap_model.specs.declared.call.Call.TheVariants as calls
use Rattle.heap_model.specs.declared.call.Reply.TheVariants as replies
use Rattle.palm_store.proofs.store.Store.create.Goals as goal

pub returns-in_default-clause-does : goal.returns-in_default-clause-does
returns-in_default-clause-does c =
    ask_viewed c.self.inside.heap c.args.self.now _ _ c.self.view_is
    (not_named c.self.inside.heap c.args.name.now c.args.kind c.args.creator c.args.resources c.args.date c.self.invariant.accepted (subst (λ (name : List ℕ). IsDatabaseName name → ⊥) c.as_slice.ensures.is c.in_default.ensures))

pub returns-then-has_other_name-clause-does : goal.returns-then-has_other_name-clause-does
returns-then-has_other_name-clause-does c =
    let named : IsDatabaseName c.args.name.now = subst (λ (name : List ℕ). IsDatabaseName name) c.as_slice.ensures.is c.in-Some.ensures.0 in
    ask_viewed c.self.inside.heap c.args.self.now _ _ c.self.view_is
    (name_taken c.self.inside.heap c.args.name.now c.args.kind c.args.creator c.args.resources c.args.date c.self.invariant.accepted named
    (subst (λ (name : List ℕ). IsTaken (store_of c.self.inside.heap.bytes) 0 name) c.as_slice-2.ensures.is (c.has_other_name.ensures.0 c.if-has_other_name.true)))

pub returns-then-count_databases-ge-MOST_DATABASES-clause-does : goal.returns-then-count_databases-ge-MOST_DATABASES-clause-does
returns-then-count_databases-ge-MOST_DATABASES-clause-does c =
    let named : IsDatabaseName c.args.name.now = subst (λ (name : List ℕ). IsDatabaseName name) c.as_slice.ensures.is c.in-Some.ensures.0 in
    let free : IsTaken (store_of c.self.inside.heap.bytes) 0 c.args.name.now → ⊥ = not_taken c.self.inside.heap.bytes _ c.args.name.now 0 _ c.has_other_name.ensures.1 c.if-has_other_name.false c.as_slice-2.ensures.is in
    let many : most_databases ≤ length (listed c.self.inside.heap.bytes) = subst (λ (n : ℕ). most_databases ≤ n) c.count_databases.ensures c.if-count_databases-ge-MOST_DATABASES.true in
    ask_viewed c.self.inside.heap c.args.self.now _ _ c.self.view_is (too_many c.self.inside.heap c.args.name.now c.args.kind c.args.creator c.args.resources c.args.date c.self.invariant.accepted named free many)

pub invariant_of-self : goal.invariant_of-self
invariant_of-self c =
    let image : List ℕ = c.self.inside.heap.bytes in
    let named : IsDatabaseName c.args.name.now = subst (λ (name : List ℕ). IsDatabaseName name) c.as_slice.ensures.is c.in-Some.ensures.0 in
    let free : IsTaken (store_of image) 0 c.args.name.now → ⊥ = not_taken image _ c.args.name.now 0 _ c.has_other_name.ensures.1 c.if-has_other_name.false c.as_slice-2.ensures.is in
    let few : length (listed image) < most_databases = subst (λ (n : ℕ). n < most_databases) c.count_databases.ensures c.if-count_databases-ge-MOST_DATABASES.false in
    let does = not_created c.self.inside.heap c.list_new.new.heap c.args.name.now c.args.kind c.args.creator c.args.resources c.args.date c.in_err-slot.field-0.0 c.self.invariant.accepted named few free c.in_err-slot.ensures.no_room c.in_err-slot.ensures.refusal c.in_err-slot.ensures.refused c.list_new.ensures.kept.loan c.list_new.ensures.kept.rest in
    nothing_known _ does.accepted

pub returns-in_err-slot-clause-does : goal.returns-in_err-slot-clause-does
returns-in_err-slot-clause-does c =
    let image : List ℕ = c.self.inside.heap.bytes in
    let named : IsDatabaseName c.args.name.now = subst (λ (name : List ℕ). IsDatabaseName name) c.as_slice.ensures.is c.in-Some.ensures.0 in
    let free : IsTaken (store_of image) 0 c.args.name.now → ⊥ = not_taken image _ c.args.name.now 0 _ c.has_other_name.ensures.1 c.if-has_other_name.false c.as_slice-2.ensures.is in
    let few : length (listed image) < most_databases = subst (λ (n : ℕ). n < most_databases) c.count_databases.ensures c.if-count_databases-ge-MOST_DATABASES.false in
    viewed c.self.inside.heap c.args.self.now c.list_new.new.heap _ _ c.self.view_is
    (handed_on (λ db. replies.Database db) (calls.Database (Create c.args.name.now c.args.kind c.args.creator c.args.resources c.args.date)) c.from_residual.result (let e = c.from_residual.ensures in (e.0, e.1))
    (not_created c.self.inside.heap c.list_new.new.heap c.args.name.now c.args.kind c.args.creator c.args.resources c.args.date c.in_err-slot.field-0.0 c.self.invariant.accepted named few free c.in_err-slot.ensures.no_room c.in_err-slot.ensures.refusal c.in_err-slot.ensures.refused c.list_new.ensures.kept.loan c.list_new.ensures.kept.rest))

pub sys_find-chunk-requires : goal.sys_find-chunk-requires
sys_find-chunk-requires c =
    let listed_new : ListsNew c.self.inside.heap.bytes c.list_new.new.heap.bytes c.in_ok-slot.slot.0 (replicate header_size 0) = c.in_ok-slot.ensures.lists in
    loose_movable c.list_new.new.heap.bytes c.in_ok-slot.slot.0 (chunk_of (replicate header_size 0)) listed_new.chunk refl

pub sys_write-requires-clause-within : goal.sys_write-requires-clause-within
sys_write-requires-clause-within c =
    let image : List ℕ = c.self.inside.heap.bytes in
    let listed_new : ListsNew image c.list_new.new.heap.bytes c.in_ok-slot.slot.0 (replicate header_size 0) = c.in_ok-slot.ensures.lists in
    let there = ap length (bytes_held c.list_new.new.heap.bytes c.in_ok-slot.slot.0 (chunk_of (replicate header_size 0)) listed_new.chunk) in
    let zeros : length (replicate {A = ℕ} header_size 0) ≡ header_size = length-replicate {A = ℕ} header_size 0 in
    let bytes = ap length (c.to_bytes.ensures.is (empty_database c.in-Some.field c.args.kind c.args.creator c.args.resources c.args.date) c.empty_header-header.ensures) in
    let long = length-header_bytes (empty_database c.in-Some.field c.args.kind c.args.creator c.args.resources c.args.date) (subst (λ (name : List ℕ). IsDatabaseName name) (sym c.in-Some.ensures.1) c.in-Some.ensures.0) in
    omega (arith, there, zeros, bytes, long)

pub invariant_of-self-2 : goal.invariant_of-self-2
invariant_of-self-2 c =
    let image : List ℕ = c.self.inside.heap.bytes in
    let mid : List ℕ = c.list_new.new.heap.bytes in
    let database : Database ℕ = empty_database c.args.name.now c.args.kind c.args.creator c.args.resources c.args.date in
    let named : IsDatabaseName c.args.name.now = subst (λ (name : List ℕ). IsDatabaseName name) c.as_slice.ensures.is c.in-Some.ensures.0 in
    let free : IsTaken (store_of image) 0 c.args.name.now → ⊥ = not_taken image _ c.args.name.now 0 _ c.has_other_name.ensures.1 c.if-has_other_name.false c.as_slice-2.ensures.is in
    let few : length (listed image) < most_databases = subst (λ (n : ℕ). n < most_databases) c.count_databases.ensures c.if-count_databases-ge-MOST_DATABASES.false in
    let kind_fits = c.ranges.kind.fits in
    let creator_fits = c.ranges.creator.fits in
    let date_fits = c.ranges.date.fits in
    let fits : DatabaseFits database = empty_fits c.args.name.now c.args.kind c.args.creator c.args.resources c.args.date named (omega (arith, kind_fits)) (omega (arith, creator_fits)) (omega (arith, date_fits)) in
    let bytes : c.to_bytes.result ≡ header_bytes database =
    c.to_bytes.ensures.is (empty_database c.in-Some.field c.args.kind c.args.creator c.args.resources c.args.date) c.empty_header-header.ensures
    ∙ ap (λ (name : List ℕ). header_bytes (empty_database name c.args.kind c.args.creator c.args.resources c.args.date)) (c.in-Some.ensures.1 ∙ c.as_slice.ensures.is) in
    let written : ListsNew image c.sys_write.new.self.bytes c.in_ok-slot.slot.0 c.to_bytes.result =
    header_put image mid c.sys_write.new.self.bytes c.in_ok-slot.slot.0 c.to_bytes.result c.self.invariant.accepted.heap c.in_ok-slot.ensures.lists c.sys_write.ensures.leaves (ap length bytes ∙ length-header_bytes database named) in
    let lists : ListsNew image c.sys_write.new.self.bytes c.in_ok-slot.slot.0 (spelled database) = subst (λ (xs : List ℕ). ListsNew image c.sys_write.new.self.bytes c.in_ok-slot.slot.0 xs) (bytes ∙ sym (header_spells database refl)) written in
    let does = created c.self.inside.heap c.sys_write.new.self (record { 0 = c.in_ok-slot.slot.0 }) c.args.name.now c.args.kind c.args.creator c.args.resources c.args.date c.self.invariant.accepted lists fits few free
    (keeps_then c.self.inside.heap c.list_new.new.heap c.sys_write.new.self c.list_new.ensures.kept.loan c.sys_write.ensures.loan)
    (then_written c.self.inside.heap c.list_new.new.heap c.sys_write.new.self c.list_new.ensures.kept.rest c.sys_write.ensures.rest) in
    nothing_known _ does.accepted

pub returns-clause-does : goal.returns-clause-does
returns-clause-does c =
    let image : List ℕ = c.self.inside.heap.bytes in
    let mid : List ℕ = c.list_new.new.heap.bytes in
    let database : Database ℕ = empty_database c.args.name.now c.args.kind c.args.creator c.args.resources c.args.date in
    let named : IsDatabaseName c.args.name.now = subst (λ (name : List ℕ). IsDatabaseName name) c.as_slice.ensures.is c.in-Some.ensures.0 in
    let free : IsTaken (store_of image) 0 c.args.name.now → ⊥ = not_taken image _ c.args.name.now 0 _ c.has_other_name.ensures.1 c.if-has_other_name.false c.as_slice-2.ensures.is in
    let few : length (listed image) < most_databases = subst (λ (n : ℕ). n < most_databases) c.count_databases.ensures c.if-count_databases-ge-MOST_DATABASES.false in
    let kind_fits = c.ranges.kind.fits in
    let creator_fits = c.ranges.creator.fits in
    let date_fits = c.ranges.date.fits in
    let fits : DatabaseFits database = empty_fits c.args.name.now c.args.kind c.args.creator c.args.resources c.args.date named (omega (arith, kind_fits)) (omega (arith, creator_fits)) (omega (arith, date_fits)) in
    let bytes : c.to_bytes.result ≡ header_bytes database =
    c.to_bytes.ensures.is (empty_database c.in-Some.field c.args.kind c.args.creator c.args.resources c.args.date) c.empty_header-header.ensures
    ∙ ap (λ (name : List ℕ). header_bytes (empty_database name c.args.kind c.args.creator c.args.resources c.args.date)) (c.in-Some.ensures.1 ∙ c.as_slice.ensures.is) in
    let written : ListsNew image c.sys_write.new.self.bytes c.in_ok-slot.slot.0 c.to_bytes.result =
    header_put image mid c.sys_write.new.self.bytes c.in_ok-slot.slot.0 c.to_bytes.result c.self.invariant.accepted.heap c.in_ok-slot.ensures.lists c.sys_write.ensures.leaves (ap length bytes ∙ length-header_bytes database named) in
    let lists : ListsNew image c.sys_write.new.self.bytes c.in_ok-slot.slot.0 (spelled database) = subst (λ (xs : List ℕ). ListsNew image c.sys_write.new.self.bytes c.in_ok-slot.slot.0 xs) (bytes ∙ sym (header_spells database refl)) written in
    viewed c.self.inside.heap c.args.self.now c.sys_write.new.self _ _ c.self.view_is
    (created c.self.inside.heap c.sys_write.new.self (record { 0 = c.in_ok-slot.slot.0 }) c.args.name.now c.args.kind c.args.creator c.args.resources c.args.date c.self.invariant.accepted lists fits few free
    (keeps_then c.self.inside.heap c.list_new.new.heap c.sys_write.new.self c.list_new.ensures.kept.loan c.sys_write.ensures.loan)
    (then_written c.self.inside.heap c.list_new.new.heap c.sys_write.new.self c.list_new.ensures.kept.rest c.sys_write.ensures.rest))

pub sys_write-requires-clause-here : goal.sys_write-requires-clause-here
sys_write-requires-clause-here c =
    let listed_new : ListsNew c.self.inside.heap.bytes c.list_new.new.heap.bytes c.in_ok-slot.slot.0 (replicate header_size 0) = c.in_ok-slot.ensures.lists in
    owned_here c.list_new.new.heap c.in_ok-slot.slot.0 (chunk_of (replicate header_size 0)) listed_new.chunk refl
