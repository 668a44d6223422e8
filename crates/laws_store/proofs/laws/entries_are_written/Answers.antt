use Rattle.laws_store.proofs.Edits.{spelled_set}
use Rattle.laws_store.proofs.laws.entries_are_written.Goals as goal

pub returns : goal.returns
returns c = spelled_set
