-- `open` reports out of memory only if an allocation failed.
use Rattle.palmheap_c.proofs.Words.{refl, inr, subst, IsOpenFault}
use Rattle.palmheap_c.proofs.files.open.Goals as goal

pub returns-in-Err-OutOfMemory-clause-err : goal.returns-in-Err-OutOfMemory-clause-err
returns-in-Err-OutOfMemory-clause-err c =
    let what = c.in-Err-OutOfMemory.field-0-is in
    inr (
      subst (IsOpenFault c.args.file.now) what c.in-Err-OutOfMemory.ensures.why,
      (refl, c.open.ensures.short (let is = c.in-Err-OutOfMemory.is in cc)),
    )
