-- `changes_by` returns the changes of a file whose records get these IDs, by the laws of Canonicals
-- and Given.
use Rattle.std.proofs.Common.{◌≡◌, ℕ, List, length, ap, ◌∙◌}
use Rattle.std.specs.Prelude.{◌↔◌, IsTrue}
use Rattle.heap_model.specs.Database.{database_in}
use Rattle.heap_model.specs.Store.{unique_ids}
use Rattle.canonical_file.specs.Changes.{HasPlainFiller, IsInOrder}
use Rattle.canonical_file.proofs.Given.{ids_long, says_not, says_ids}
use Rattle.canonical_file.proofs.Canonicals.{are_changes, same_form, says_name}
use Rattle.canonical_file.proofs.changes.changes_by.Goals as goal

pub keeps_ids-requires : goal.keeps_ids-requires
keeps_ids-requires g c =
    ap (λ (xs : List ℕ). length xs) c.deref.ensures.value ∙ ids_long _ _ _ c.requires.given

pub returns-clause-changes : goal.returns-clause-changes
returns-clause-changes g c =
    let file = c.args.file.now in
    let ids = c.args.given.now.ids.items in
    let seed = c.args.given.now.seed in
    let kept = rw c.deref.ensures.value at c.keeps_ids.ensures in
    are_changes file ids seed _ c.know_file.ensures.numbers c.requires.short
    c.know_file.ensures.good c.requires.given (record {
      busy = c.has_busy.ensures;
      filler = says_not c.has_filler.result (HasPlainFiller file) c.has_filler.ensures;
      ids = says_ids file ids seed c.keeps_ids.result c.know_file.ensures.good c.requires.given
          kept;
      name = says_name file c.has_name.result c.know_file.ensures.good c.has_name.ensures;
      order = says_not c.is_in_order.result (IsInOrder file) c.is_in_order.ensures;
    })

pub returns-clause-same : goal.returns-clause-same
returns-clause-same g c =
    same_form _ _ _ _ c.know_file.ensures.good c.requires.given (returns-clause-changes g c)
