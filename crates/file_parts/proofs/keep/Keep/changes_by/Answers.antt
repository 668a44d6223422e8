-- `changes_by` returns the changes of a file that are left, for the IDs that its records get in the
-- canonical form, by the laws of KeptChanges.
use Rattle.file_parts.proofs.AllWords.{known_of, AreChangesLeft, sym, subst}
use Rattle.file_parts.proofs.KeptChanges.{are_left}
use Rattle.file_parts.proofs.keep.Keep.changes_by.Goals as goal

pub returns : goal.returns
returns g c =
    let file = c.args.file.now in
    let ids = c.args.given.now.ids.items in
    let seed = c.args.given.now.seed in
    subst (AreChangesLeft c.args.self file) (sym c.left_of.ensures)
    (are_left c.args.self _ _ _ (known_of _ ids _ c.know_file.ensures.numbers c.requires.short
    c.know_file.ensures.good c.requires.given) c.changes_by.ensures.changes)
