-- The call makes the whole database, or leaves the store as before.
use Rattle.pdb_files.proofs.Laws.{◌≢◌, ℕ, List, Option, length, sym, subst, ◌∙◌, length-map, store_of, blocks_in, FirstBrings, Name, Import, OutOfMemory, handed_on, slides_then, none_slid, WholeEntry, data_sizes, numbers_in, MakesWhole, checks_of_whole, AreFilled, whole_not_memory, zeros_first, imported, no_room_left, names_enough}
use Rattle.heap_model.specs.declared.call.Call.TheVariants as calls
use Rattle.heap_model.specs.declared.call.Reply.TheVariants as replies
use Rattle.laws_heap.proofs.Results.{if_err}
use Rattle.pdb_files.proofs.importing.make.Goals as goal

pub returns-in_err-db-clause-does : goal.returns-in_err-db-clause-does
returns-in_err-db-clause-does c =
    let why = subst (λ (entries : List WholeEntry). FirstBrings
    (checks_of_whole c.args.store.now.bytes c.args.plan.now.info c.args.plan.now.sizes entries)
    c.in_err-db.field-0.0) c.deref.ensures.value c.in_err-db.ensures.why in
    handed_on (λ db.
    replies.Database db) (calls.File (Import c.args.file.now)) c.from_residual.result (let e =
    c.from_residual.ensures in (e.0, e.1)) (no_room_left c.args.store.now c.create_whole.new.self
    c.args.file.now c.args.plan.now c.in_err-db.field-0.0 c.requires.accepted
    c.blocks-blocks.ensures.places.good c.requires.free c.requires.few c.requires.plan why
    c.in_err-db.ensures.refused c.in_err-db.ensures.as_before c.create_whole.ensures.kept)

pub fill_blocks-requires-clause-zeros : goal.fill_blocks-requires-clause-zeros
fill_blocks-requires-clause-zeros c =
    let names : List ℕ = numbers_in c.create_whole.new.names in
    let made = subst (λ (entries : List WholeEntry). MakesWhole c.args.store.now.bytes
    c.create_whole.new.self.bytes c.in_ok-db.db.0 c.args.plan.now.info c.args.plan.now.sizes entries
    names) c.deref.ensures.value c.in_ok-db.ensures.made in
    let blocks = c.blocks-blocks.ensures.places.are in
    subst (λ (bs : List (Option (List ℕ))).
    AreFilled (store_of c.create_whole.new.self.bytes).map bs names 0) (sym blocks)
    (zeros_first (store_of c.args.store.now.bytes).map (store_of c.create_whole.new.self.bytes).map
    (data_sizes c.args.plan.now.sizes c.args.plan.now.entries.items)
    (blocks_in c.args.file.now) names c.requires.plan.sizes made.gains.map)

pub fill_blocks-requires-clause-long : goal.fill_blocks-requires-clause-long
fill_blocks-requires-clause-long c =
    c.in_ok-db.ensures.names ∙ c.requires.names ∙ sym (names_enough c.args.file.now c.args.plan.now
    c.blocks-blocks.result.now c.blocks-blocks.ensures.places.are c.requires.plan)

pub returns-clause-does : goal.returns-clause-does
returns-clause-does c =
    let names : List ℕ = numbers_in c.create_whole.new.names in
    let made = subst (λ (entries : List WholeEntry). MakesWhole c.args.store.now.bytes
    c.create_whole.new.self.bytes c.in_ok-db.db.0 c.args.plan.now.info c.args.plan.now.sizes entries
    names) c.deref.ensures.value c.in_ok-db.ensures.made in
    let blocks = c.blocks-blocks.ensures.places.are in
    let long = length-map c.create_whole.new.names (λ (name : Name). name.0) in
    let filled = subst (λ (count : ℕ). AreFilled (store_of c.fill_blocks.new.store.bytes).map
    (blocks_in c.args.file.now) names count) (sym long)
    (subst (λ (bs : List (Option (List ℕ))). AreFilled (store_of c.fill_blocks.new.store.bytes).map
    bs names (length c.create_whole.new.names)) blocks c.fill_blocks.ensures.filled) in
    let kept = slides_then c.args.store.now c.create_whole.new.self c.fill_blocks.new.store
    c.in_ok-db.ensures.kept (none_slid _ _ c.fill_blocks.ensures.kept) in
    imported c.args.store.now c.create_whole.new.self c.fill_blocks.new.store c.args.file.now
    c.in_ok-db.db c.args.plan.now names c.requires.accepted c.blocks-blocks.ensures.places.good
    c.requires.free c.requires.few c.requires.plan made c.fill_blocks.ensures.refills
    (long ∙ c.in_ok-db.ensures.names ∙ c.requires.names) filled kept

pub returns-in_err-db-clause-takes_no_memory : goal.returns-in_err-db-clause-takes_no_memory
returns-in_err-db-clause-takes_no_memory c =
    if_err (λ refusal. refusal ≢ OutOfMemory) c.from_residual.result
    (let e = c.from_residual.ensures in (e.0, e.1)) (whole_not_memory c.args.store.now.bytes
    c.args.plan.now.info c.args.plan.now.sizes _ c.in_err-db.field-0.0 c.in_err-db.ensures.why)
