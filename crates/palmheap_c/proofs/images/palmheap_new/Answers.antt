-- `palmheap_new` reports out of memory only if an allocation failed.
use Rattle.palmheap_c.proofs.images.palmheap_new.Goals as goal

pub returns-in-Err-OutOfMemory-clause-short : goal.returns-in-Err-OutOfMemory-clause-short
returns-in-Err-OutOfMemory-clause-short c = λ _. c.blank.ensures.no_memory
    (let is = c.in-Err-OutOfMemory.is in let what = c.in-Err-OutOfMemory.field-0-is in cc)
