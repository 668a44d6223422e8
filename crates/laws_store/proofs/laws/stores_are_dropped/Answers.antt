use Rattle.laws_store.proofs.Listed.{dropped}
use Rattle.laws_store.proofs.laws.stores_are_dropped.Goals as goal

pub returns : goal.returns
returns c = dropped
