use Rattle.laws_store.proofs.EditedStores.{make_steps}
use Rattle.laws_store.proofs.laws.makes_are_steps.Goals as goal

pub returns : goal.returns
returns c = make_steps
