-- `listing_of` reports out of memory only if an allocation failed.
use Rattle.std.proofs.Common.{refl, inr, subst}
use Rattle.file_listing.specs.Listing.{IsListFault}
use Rattle.palmheap_c.proofs.files.listing_of.Goals as goal

pub returns-in-Err-OutOfMemory-clause-err : goal.returns-in-Err-OutOfMemory-clause-err
returns-in-Err-OutOfMemory-clause-err c =
    let what = c.in-Err-OutOfMemory.field-0-is in
    inr (
      search,
      inr (
        subst (IsListFault c.args.file.now) what c.in-Err-OutOfMemory.ensures.why,
        (refl, c.put_listing.ensures.short (let is = c.in-Err-OutOfMemory.is in cc)),
      ),
    )
