use Rattle.laws_store.proofs.EditedStores.{respell_steps}
use Rattle.laws_store.proofs.laws.respells_are_steps.Goals as goal

pub returns : goal.returns
returns c = respell_steps
