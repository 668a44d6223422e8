use Rattle.laws_store.proofs.ChangeSteps.{set_steps}
use Rattle.laws_store.proofs.laws.sets_are_steps.Goals as goal

pub returns : goal.returns
returns c = set_steps
