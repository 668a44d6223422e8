use Rattle.laws_store.proofs.Listed.{appended}
use Rattle.laws_store.proofs.laws.stores_are_appended.Goals as goal

pub returns : goal.returns
returns c = appended
