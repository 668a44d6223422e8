-- `check_new` refuses a database whose name is taken, or for which the store has no place.
use Rattle.pdb_files.proofs.Laws.{◌≤◌, ℕ, List, length, refl, sym, subst, ◌∙◌, arith, inl, inr, take_all, most_databases, store_of, IsTaken, taken_found, free_found, count_is}
use Rattle.pdb_files.proofs.importing.check_new.Goals as goal

pub returns-then-is_ok-clause-why : goal.returns-then-is_ok-clause-why
returns-then-is_ok-clause-why c =
    let taken = subst (λ (name : List ℕ). IsTaken (store_of c.args.store.now.bytes) 0 name)
    (c.of.ensures ∙ take_all 32 c.args.name.now (omega (arith, c.requires)))
    (taken_found c.args.store.now c.of.result c.find.result c.find.ensures
    (sym c.is_ok.ensures.value ∙ c.if-is_ok.true)) in
    inl (taken, refl)

pub returns-then-count-ge-MOST_DATABASES-clause-why : goal.returns-then-count-ge-MOST_DATABASES-clause-why
returns-then-count-ge-MOST_DATABASES-clause-why c =
    let free =
    (subst (λ (name : List ℕ). IsTaken (store_of c.args.store.now.bytes) 0 name → ⊥) (c.of.ensures
    ∙ take_all 32 c.args.name.now (omega (arith, c.requires))) (free_found c.args.store.now
    c.of.result c.find.result c.find.ensures (sym c.is_ok.ensures.value ∙ c.if-is_ok.false))) in
    let count = count_is c.args.store.now c.count-count.result c.count-count.ensures in
    let most = c.if-count-ge-MOST_DATABASES.true in
    let many : most_databases ≤ length (store_of c.args.store.now.bytes).databases =
    omega (arith, count, most) in
    inr (free, inl (many, refl))

pub returns-clause-free : goal.returns-clause-free
returns-clause-free c =
    subst (λ (name : List ℕ). IsTaken (store_of c.args.store.now.bytes) 0 name → ⊥) (c.of.ensures
    ∙ take_all 32 c.args.name.now (omega (arith, c.requires))) (free_found c.args.store.now
    c.of.result c.find.result c.find.ensures (sym c.is_ok.ensures.value ∙ c.if-is_ok.false))
