use Rattle.laws_store.proofs.LiftedCalls.{memory_call_steps}
use Rattle.laws_store.proofs.laws.memory_calls_are_store_steps.Goals as goal

pub returns : goal.returns
returns c = memory_call_steps
