-- `chained` reports out of memory only if an allocation failed.
use Rattle.std.proofs.Common.{refl}
use Rattle.palmheap_c.proofs.chained_images.chained.Goals as goal

pub returns-in-Err-OutOfMemory-default-clause-refused : goal.returns-in-Err-OutOfMemory-default-clause-refused
returns-in-Err-OutOfMemory-default-clause-refused c =
    (refl, c.in-Err-OutOfMemory-default.ensures.no_memory c.in-Err-OutOfMemory-default.field-0-0-is)
