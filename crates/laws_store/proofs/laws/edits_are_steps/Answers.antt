use Rattle.laws_store.proofs.EditedStores.{edit_steps}
use Rattle.laws_store.proofs.laws.edits_are_steps.Goals as goal

pub returns : goal.returns
returns c = edit_steps
