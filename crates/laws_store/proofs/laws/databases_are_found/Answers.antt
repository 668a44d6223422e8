use Rattle.laws_store.proofs.Found.{found_at}
use Rattle.laws_store.proofs.laws.databases_are_found.Goals as goal

pub returns : goal.returns
returns c store db one = found_at db store.databases one
