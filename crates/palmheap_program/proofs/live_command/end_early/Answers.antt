use Rattle.std.proofs.Common.{is_ok, refl}
use Rattle.palmheap_program.proofs.live_command.end_early.Goals as goal

pub returns-in-Memory-clause-ends : goal.returns-in-Memory-clause-ends
returns-in-Memory-clause-ends g c = rw c.in-Memory.is (refl, is_ok c.flush.result, c.flush.ensures)
