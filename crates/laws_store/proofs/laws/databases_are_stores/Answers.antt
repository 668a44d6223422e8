use Rattle.laws_store.proofs.ChangeSteps.{has_store}
use Rattle.laws_store.proofs.laws.databases_are_stores.Goals as goal

pub returns : goal.returns
returns c image store h same = has_store image store.map store.databases h same
