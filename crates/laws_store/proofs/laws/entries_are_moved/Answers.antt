use Rattle.laws_store.proofs.Edits.{spelled_insert, spelled_remove}
use Rattle.laws_store.proofs.laws.entries_are_moved.Goals as goal

pub returns : goal.returns
returns c = (spelled_insert, spelled_remove)
