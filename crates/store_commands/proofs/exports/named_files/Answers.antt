use Rattle.std.proofs.Common.{◌≡◌, List, ℕ, subst}
use Rattle.std.specs.List.{AllZip}
use Rattle.std.proofs.lemmas.List.{take_all}
use Rattle.heap_model.specs.Store.{database_under, store_of}
use Rattle.laws_store.proofs.Numbered.{number_here}
use Rattle.store_commands.specs.Exports.{IsFileNamed, IsNamedBy}
use Rattle.store_commands.proofs.Lines.{named_more}
use Rattle.store_commands.proofs.exports.named_files.Goals as goal

pub loop-index-preserved : goal.loop-index-preserved
loop-index-preserved g c =
    let image = c.args.store.now.bytes in
    let db = c.in-Some.db.0 in
    let one : IsFileNamed (store_of image) c.index-words-index.result c.in-Ok.file = record {
      one = database_under image db;
      there = number_here image db c.in-Some.ensures.there;
      named = subst (λ (word : List ℕ). IsNamedBy (store_of image) word (database_under image db).database.header.name) c.as_slice.ensures c.in-Some.ensures.named;
      is = c.in-Ok.ensures.file;
    } in
    rw c.in-Ok-push.ensures.items (named_more (store_of image) c.args.words.now c.loop-index.files.items c.in-Ok.file c.loop-index.index c.index-words-index.result c.loop-index.invariant c.loop-index-test.true c.index-words-index.is one)

pub returns-clause-files : goal.returns-clause-files
returns-clause-files g c =
    subst (λ (words : List (List ℕ)). AllZip (IsFileNamed (store_of c.args.store.now.bytes)) words c.loop-index.files.items) (take_all c.loop-index.index c.args.words.now c.loop-index-test.false) c.loop-index.invariant
