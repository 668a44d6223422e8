-- `listing_document` reports out of memory only if an allocation failed.
use Rattle.palmheap_c.proofs.documents.listing_document.Goals as goal

pub returns-in-Err-OutOfMemory-clause-why : goal.returns-in-Err-OutOfMemory-clause-why
returns-in-Err-OutOfMemory-clause-why c =
    c.put_listing.ensures.short (let is = c.in-Err-OutOfMemory.is in cc)
