-- `put_file` changes neither buffer if it is refused.
use Rattle.std.proofs.Common.{inr, refl}
use Rattle.palmheap_c.proofs.writing.put_file.Goals as goal

pub returns-in-Err : goal.returns-in-Err
returns-in-Err c = inr (c.in-Err.ensures.err, refl)
