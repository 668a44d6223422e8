-- `import_opened` makes the database of a file, or refuses it and leaves the store as it was.
use Rattle.pdb_files.proofs.Laws.{ℕ, List, length, ap, subst, ◌∙◌, arith, store_of, IsTaken, FirstBrings, Import, refused, handed_on, checks_of_new, good_brings, front_brings, no_memory_left, names_enough}
use Rattle.heap_model.specs.declared.call.Call.TheVariants as calls
use Rattle.heap_model.specs.declared.call.Reply.TheVariants as replies
use Rattle.pdb_files.proofs.LongBlocks.{no_room_for_long}
use Rattle.pdb_files.proofs.importing.import_opened.Goals as goal

pub check_new-requires : goal.check_new-requires
check_new-requires g c =
    omega (arith, c.name.ensures.valid.room, ap (λ (xs : List ℕ). length xs) c.name.ensures.is)

pub returns-in_err-check_new-clause-does : goal.returns-in_err-check_new-clause-does
returns-in_err-check_new-clause-does g c = handed_on (λ db. replies.Database db)
    (calls.File (Import c.args.file.now)) c.from_residual.result (let e = c.from_residual.ensures in
    (e.0, e.1)) (refused c.args.store.now (calls.File (Import c.args.file.now))
    c.in_err-check_new.field-0.0 c.in_err-check_new.ensures.accepted
    (front_brings c.args.store.now c.args.file.now c.in_err-check_new.field-0.0
    (good_brings c.args.file.now _ c.in_err-check_new.field-0.0 c.know_file.ensures.good
    (subst (λ (name : List ℕ). FirstBrings (checks_of_new c.args.store.now.bytes name)
    c.in_err-check_new.field-0.0) c.name.ensures.is c.in_err-check_new.ensures.why))))

pub returns-in_default-no_names-clause-does : goal.returns-in_default-no_names-clause-does
returns-in_default-no_names-clause-does g c =
    let passed = c.in_ok-check_new.ensures in
    no_memory_left c.args.store.now c.args.file.now passed.accepted c.know_file.ensures.good
    (subst (λ (name : List ℕ). IsTaken (store_of c.args.store.now.bytes) 0 name → ⊥)
    c.name.ensures.is passed.free) passed.few

pub make-requires-clause-names : goal.make-requires-clause-names
make-requires-clause-names g c = ap length c.deref_mut.ensures.value ∙ c.in-Ok-no_names.ensures.len
    ∙ names_enough c.args.file.now c.in-Ok.plan c.blocks-blocks.result.now
    c.blocks-blocks.ensures.places.are c.in-Ok.ensures.plan

pub make-requires-clause-free : goal.make-requires-clause-free
make-requires-clause-free g c =
    subst (λ (name : List ℕ). IsTaken (store_of c.args.store.now.bytes) 0 name → ⊥)
    c.name.ensures.is c.in_ok-check_new.ensures.free

pub returns-in_default-clause-does : goal.returns-in_default-clause-does
returns-in_default-clause-does g c =
    let passed = c.in_ok-check_new.ensures in
    no_memory_left c.args.store.now c.args.file.now passed.accepted c.know_file.ensures.good
    (subst (λ (name : List ℕ). IsTaken (store_of c.args.store.now.bytes) 0 name → ⊥)
    c.name.ensures.is passed.free) passed.few

pub returns-then-not-are_short-clause-does : goal.returns-then-not-are_short-clause-does
returns-then-not-are_short-clause-does g c =
    let passed = c.in_ok-check_new.ensures in
    no_room_for_long c.args.store.now c.args.file.now c.blocks-blocks.result.now passed.accepted
    c.know_file.ensures.good
    (subst (λ (name : List ℕ). IsTaken (store_of c.args.store.now.bytes) 0 name → ⊥)
    c.name.ensures.is passed.free) passed.few c.blocks-blocks.ensures.places.are
    c.blocks-blocks.ensures.places.within
    (λ all. (let yes = c.are_short.ensures.1 all in let no = c.if-not-are_short.true in absurd cc))
