use Rattle.laws_store.proofs.ChangeSteps.{drop_steps}
use Rattle.laws_store.proofs.laws.drops_are_steps.Goals as goal

pub returns : goal.returns
returns c = drop_steps
