-- `salvaged_of` reports out of memory only if an allocation failed.
use Rattle.std.proofs.Common.{inr, refl, subst}
use Rattle.canonical_file.specs.Salvaged.{IsSalvageFault}
use Rattle.palmheap_c.proofs.salvaging.salvaged_of.Goals as goal

pub returns-in-Err-OutOfMemory-clause-err : goal.returns-in-Err-OutOfMemory-clause-err
returns-in-Err-OutOfMemory-clause-err c =
    let what = c.in-Err-OutOfMemory.field-0-is in
    inr (
      search,
      inr (
        subst (IsSalvageFault c.args.file.now) what c.in-Err-OutOfMemory.ensures.why,
        (refl, c.put_salvaged.ensures.short (let is = c.in-Err-OutOfMemory.is in cc)),
      ),
    )
