use Rattle.std.proofs.Common.{◌≡◌, ℕ, List, false, arith, subst}
use Rattle.std.specs.Prelude.{All}
use Rattle.std.proofs.lemmas.List.{take_all}
use Rattle.std.proofs.lemmas.List.Elements.{All-map}
use Rattle.heap_model.specs.Store.{StoredDatabase, store_of}
use Rattle.store_commands.specs.Exports.{is_spelled}
use Rattle.store_commands.proofs.exports.spelled_number.Goals as goal

pub returns-clause-none : goal.returns-clause-none
returns-clause-none c =
    let databases = (store_of c.args.store.now.bytes).databases in
    let all = take_all c.loop-index.index databases (omega (arith, c.count_of-index-end.ensures, c.loop-index-test.false)) in
    All-map (λ (other : List ℕ). is_spelled other c.args.word.now ≡ false) (λ (one : StoredDatabase). one.database.header.name) databases
    (subst (All (λ (one : StoredDatabase). is_spelled one.database.header.name c.args.word.now ≡ false)) all c.loop-index.invariant)
