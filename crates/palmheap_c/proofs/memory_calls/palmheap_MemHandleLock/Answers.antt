-- `palmheap_MemHandleLock` does that call on the store, by the laws of CallLaws.
use Rattle.std.proofs.Common.{refl}
use Rattle.palmheap_c.proofs.CallLaws.{is_done}
use Rattle.palmheap_c.proofs.memory_calls.palmheap_MemHandleLock.Goals as goal

pub returns-in-Ok-clause-does : goal.returns-in-Ok-clause-does
returns-in-Ok-clause-does c = is_done (rw c.as_mut.ensures.value at c.in-Ok.ensures.does) refl
