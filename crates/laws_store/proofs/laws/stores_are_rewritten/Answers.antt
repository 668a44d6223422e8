use Rattle.laws_store.proofs.RewrittenDatabases.{rewritten}
use Rattle.laws_store.proofs.laws.stores_are_rewritten.Goals as goal

pub returns : goal.returns
returns c = rewritten
