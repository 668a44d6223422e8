use Rattle.laws_store.proofs.Parts.{made_then_short}
use Rattle.laws_store.proofs.laws.made_then_short.Goals as goal

pub returns : goal.returns
returns c = made_then_short
