use Rattle.laws_store.proofs.StoreChunks.{stores_tell}
use Rattle.laws_store.proofs.laws.stores_tell.Goals as goal

pub returns : goal.returns
returns c = stores_tell
