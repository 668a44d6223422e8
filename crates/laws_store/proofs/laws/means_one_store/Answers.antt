use Rattle.laws_store.proofs.MeantStore.{read_is_meant, one_meant}
use Rattle.laws_store.proofs.laws.means_one_store.Goals as goal

pub returns : goal.returns
returns c image a = (read_is_meant image a, one_meant image)
