use Rattle.laws_store.proofs.Parts.{one_made, one_grown}
use Rattle.laws_store.proofs.laws.one_part_is_short.Goals as goal

pub returns : goal.returns
returns c = (one_made, one_grown)
