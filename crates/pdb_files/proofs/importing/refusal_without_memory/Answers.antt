-- `refusal_without_memory` returns the refusal of a file that was not opened as memory ran out.
use Rattle.pdb_files.proofs.Laws.{List, ℕ, length, ap, subst, arith, store_of, IsTaken, FirstBrings, Import, refused, checks_of_new, good_brings, front_brings, no_memory_left}
use Rattle.heap_model.specs.declared.call.Call.TheVariants as calls
use Rattle.pdb_format.proofs.FileNames.{name_short}
use Rattle.pdb_format.proofs.GoodFiles.{not_truncated}
use Rattle.pdb_files.proofs.importing.refusal_without_memory.Goals as goal

pub name_in-requires : goal.name_in-requires
name_in-requires c =
    let header = (not_truncated c.args.file.now c.requires).0 in
    omega arith

pub check_new-requires : goal.check_new-requires
check_new-requires c =
    let short = name_short c.args.file.now in
    let is = ap (λ (xs : List ℕ). length xs) c.name_in.ensures in
    omega (arith, short, is)

pub returns-in-Ok : goal.returns-in-Ok
returns-in-Ok c = no_memory_left c.args.store.now c.args.file.now c.check_new.ensures.accepted
    c.requires (subst (λ (name : List ℕ). IsTaken (store_of c.args.store.now.bytes) 0 name → ⊥)
    c.name_in.ensures c.in-Ok.ensures.free) c.in-Ok.ensures.few

pub returns-in-Err : goal.returns-in-Err
returns-in-Err c = refused c.args.store.now (calls.File (Import c.args.file.now)) c.in-Err.refusal
    c.check_new.ensures.accepted (front_brings c.args.store.now c.args.file.now c.in-Err.refusal
    (good_brings c.args.file.now _ c.in-Err.refusal c.requires
    (subst (λ (name : List ℕ). FirstBrings (checks_of_new c.args.store.now.bytes name)
    c.in-Err.refusal) c.name_in.ensures c.in-Err.ensures.why)))
