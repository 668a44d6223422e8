use Rattle.laws_store.proofs.MemoryCalls.{does_keeps}
use Rattle.laws_store.proofs.laws.memory_calls_keep_stores.Goals as goal

pub returns : goal.returns
returns c = does_keeps
