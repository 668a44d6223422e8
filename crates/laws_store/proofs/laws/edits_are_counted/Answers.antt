use Rattle.laws_store.proofs.Entries.{replaced_names, removed_names, inserted_names, moved_names}
use Rattle.laws_store.proofs.laws.edits_are_counted.Goals as goal

pub returns : goal.returns
returns c = (inserted_names, replaced_names, removed_names, moved_names)
