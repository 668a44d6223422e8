-- `grown` reports out of memory only if an allocation failed.
use Rattle.std.proofs.Common.{inl, inr, refl}
use Rattle.palmheap_c.proofs.migrating.grown.Goals as goal

pub returns-in-Err-OutOfMemory-default-clause-refused : goal.returns-in-Err-OutOfMemory-default-clause-refused
returns-in-Err-OutOfMemory-default-clause-refused c = inr (inl (
  refl,
  c.in-Err-OutOfMemory-default.ensures.no_memory c.in-Err-OutOfMemory-default.field-0-0-is,
))
