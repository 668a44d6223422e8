use Rattle.laws_store.proofs.Spellings.{database_read}
use Rattle.laws_store.proofs.laws.spellings_are_read.Goals as goal

pub returns : goal.returns
returns c = database_read
