-- `add_entry` reports out of memory only if an allocation failed.
use Rattle.std.proofs.Common.{inl, refl}
use Rattle.palmheap_c.proofs.writing.add_entry.Goals as goal

pub returns-in-Err-OutOfMemory-clause-err : goal.returns-in-Err-OutOfMemory-clause-err
returns-in-Err-OutOfMemory-clause-err c =
    inl (refl, c.list_entry.ensures.short (let is = c.in-Err-OutOfMemory.is in cc))
