use Rattle.laws_store.proofs.KeptDatabases.{databases_kept}
use Rattle.laws_store.proofs.laws.stores_are_kept.Goals as goal

pub returns : goal.returns
returns c = databases_kept
