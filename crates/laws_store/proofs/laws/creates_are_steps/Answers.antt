use Rattle.laws_store.proofs.ChangeSteps.{create_steps}
use Rattle.laws_store.proofs.laws.creates_are_steps.Goals as goal

pub returns : goal.returns
returns c = create_steps
