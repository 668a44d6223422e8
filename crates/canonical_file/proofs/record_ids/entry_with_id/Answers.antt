-- `entry_with_id` returns the entry as it is read with the IDs of the file, by the laws of OwnIds.
use Rattle.std.proofs.Common.{◌∙◌, ℕ, List, sym, ap}
use Rattle.heap_model.specs.Database.{entry_with}
use Rattle.pdb_format.specs.ReadFiles.{entry_read_at}
use Rattle.canonical_file.specs.Written.{ids_of}
use Rattle.canonical_file.proofs.OwnIds.{own_read}
use Rattle.canonical_file.proofs.record_ids.entry_with_id.Goals as goal

pub returns-in-Own-clause-is : goal.returns-in-Own-clause-is
returns-in-Own-clause-is g c =
    let file = c.args.file.now in
    c.idle_entry_at.ensures.is
    ∙ own_read file c.args.index c.args.at _ c.entry.ensures.is c.requires.inside
    ∙ ap (λ (ids : List ℕ). entry_with (λ _. c.args.at) (entry_read_at file ids c.args.index))
    (ap (ids_of file) (sym c.in-Own.is))
