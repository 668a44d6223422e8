use Rattle.laws_store.proofs.EditedStores.{chunk_steps, change_steps, same_steps}
use Rattle.laws_store.proofs.laws.chunks_are_steps.Goals as goal

pub returns : goal.returns
returns c = (chunk_steps, change_steps, same_steps)
