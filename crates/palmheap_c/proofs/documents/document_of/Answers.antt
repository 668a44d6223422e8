-- `document_of` refuses a file only with the fault of its document.
use Rattle.std.proofs.Common.{refl, subst}
use Rattle.palmheap_c.specs.Documents.{IsDocumentFault}
use Rattle.palmheap_c.proofs.documents.document_of.Goals as goal

pub returns-in-Err-OutOfMemory-clause-err : goal.returns-in-Err-OutOfMemory-clause-err
returns-in-Err-OutOfMemory-clause-err c = (
  refl,
  subst (IsDocumentFault c.args.file.now) c.in-Err-OutOfMemory.field-0-is
      c.in-Err-OutOfMemory.ensures.why,
)

pub returns-in-Err-Write-clause-err : goal.returns-in-Err-Write-clause-err
returns-in-Err-Write-clause-err c = (
  refl,
  subst (IsDocumentFault c.args.file.now) c.in-Err-Write.field-0-is c.in-Err-Write.ensures.why,
)
