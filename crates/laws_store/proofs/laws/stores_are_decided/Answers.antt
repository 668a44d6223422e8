use Rattle.laws_store.proofs.Tests.{Decides-store}
use Rattle.laws_store.proofs.laws.stores_are_decided.Goals as goal

pub returns : goal.returns
returns c = Decides-store
