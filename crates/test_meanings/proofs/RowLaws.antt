-- Each fault, each change and each refusal has one row. The second equation of a lemma is checked for
-- each variant that the first one leaves, so a new variant needs a row and no new equation.
use Rattle.std.proofs.Common.{refl}
use Rattle.std.specs.Prelude.{IsTrue}
use Rattle.chunk_format.specs.declared.image.BlankFault.{BlankFault}
use Rattle.chunk_format.specs.declared.image.BlankFault.TheVariants as blank
use Rattle.heap_check.specs.declared.fault.HeapFault.{HeapFault}
use Rattle.heap_check.specs.declared.fault.HeapFault.TheVariants as heap
use Rattle.heap_migration.specs.declared.migration.MigrateFault.{MigrateFault}
use Rattle.heap_migration.specs.declared.migration.MigrateFault.TheVariants as migrate
use Rattle.heap_model.specs.declared.file_fault.FileFault.{FileFault}
use Rattle.heap_model.specs.declared.file_fault.FileFault.TheVariants as file
use Rattle.heap_model.specs.declared.refusal.Refusal.{Refusal}
use Rattle.heap_model.specs.declared.refusal.Refusal.TheVariants as why
use Rattle.script_lines.specs.declared.fault.ScriptFault.{ScriptFault}
use Rattle.script_lines.specs.declared.fault.ScriptFault.TheVariants as script
use Rattle.store_check.specs.declared.fault.StoreFault.{StoreFault}
use Rattle.store_check.specs.declared.fault.StoreFault.TheVariants as store
use Rattle.explanations.specs.Explained.{has_row}
use Rattle.explanations.specs.declared.table.FileChange.{FileChange}
use Rattle.explanations.specs.declared.table.FileChange.TheVariants as words
use Rattle.explanations.specs.declared.table.Subject.TheVariants.{Heap, File, Change, Call}
use Rattle.test_meanings.specs.Rows.{image_subject, line_subject, blank_subject, output_subject, AllHaveRows}

heap_has_row : (fault : HeapFault) → IsTrue (has_row (Heap fault))
heap_has_row heap.TooShort = refl
heap_has_row fault = refl

image_has_row : (fault : StoreFault) → IsTrue (has_row (image_subject fault))
image_has_row (store.Heap fault) = heap_has_row fault
image_has_row fault = refl

file_has_row : (fault : FileFault) → IsTrue (has_row (File fault))
file_has_row file.Truncated = refl
file_has_row fault = refl

line_has_row : (fault : ScriptFault) → IsTrue (has_row (line_subject fault))
line_has_row script.OutOfMemory = refl
line_has_row fault = refl

blank_has_row : (fault : BlankFault) → IsTrue (has_row (blank_subject fault))
blank_has_row blank.OutOfMemory = refl
blank_has_row fault = refl

output_has_row : (fault : MigrateFault) → IsTrue (has_row (output_subject fault))
output_has_row migrate.Lent = refl
output_has_row fault = refl

change_has_row : (change : FileChange) → IsTrue (has_row (Change change))
change_has_row words.Busy = refl
change_has_row change = refl

refusal_has_row : (refusal : Refusal) → IsTrue (has_row (Call refusal))
refusal_has_row why.InvalidHandle = refl
refusal_has_row refusal = refl

pub all_have_rows : AllHaveRows
all_have_rows = record {
  images = image_has_row;
  files = file_has_row;
  lines = line_has_row;
  blanks = blank_has_row;
  outputs = output_has_row;
  parts = refl;
  changes = change_has_row;
  refusals = refusal_has_row;
}
