-- What the table of `explanations` has to have: one row for each fault, each change in a rewritten
-- file and each refusal. A fault with the name of a refusal, as `OutOfMemory`, is explained as that
-- refusal.
use Rattle.std.specs.Prelude.{IsTrue}
use Rattle.chunk_format.specs.declared.image.BlankFault.{BlankFault}
use Rattle.chunk_format.specs.declared.image.BlankFault.TheVariants as blank
use Rattle.heap_migration.specs.declared.migration.MigrateFault.{MigrateFault}
use Rattle.heap_migration.specs.declared.migration.MigrateFault.TheVariants as migrate
use Rattle.heap_model.specs.declared.file_fault.FileFault.{FileFault}
use Rattle.heap_model.specs.declared.refusal.Refusal.{Refusal}
use Rattle.heap_model.specs.declared.refusal.Refusal.TheVariants as why
use Rattle.script_lines.specs.declared.fault.ScriptFault.{ScriptFault}
use Rattle.script_lines.specs.declared.fault.ScriptFault.TheVariants as script
use Rattle.store_check.specs.declared.fault.StoreFault.{StoreFault}
use Rattle.store_check.specs.declared.fault.StoreFault.TheVariants as store
use Rattle.explanations.specs.Explained.{has_row}
use Rattle.explanations.specs.declared.table.FileChange.{FileChange}
use Rattle.explanations.specs.declared.table.Subject.{Subject}
use Rattle.explanations.specs.declared.table.Subject.TheVariants.{Heap, Databases, File, Line, Blank, Output, EmptyPart, Change, Call}

-- the row for a fault of an image is about its heap, or about its databases
abbrev pub image_subject : StoreFault → Subject
image_subject (store.Heap fault) = Heap fault
image_subject store.OutOfMemory = Call why.OutOfMemory
image_subject fault = Databases fault

-- the row for a fault of a line
abbrev pub line_subject : ScriptFault → Subject
line_subject script.OutOfMemory = Call why.OutOfMemory
line_subject fault = Line fault

-- the row for the fault of a size and a slot count
abbrev pub blank_subject : BlankFault → Subject
blank_subject blank.OutOfMemory = Call why.OutOfMemory
blank_subject fault = Blank fault

-- the row for an image that isn't migrated
abbrev pub output_subject : MigrateFault → Subject
output_subject migrate.Lent = Call why.Lent
output_subject migrate.OutOfMemory = Call why.OutOfMemory
output_subject fault = Output fault

-- Each fault, each change and each refusal has one row. So no section of the table is left out, and
-- none is there twice.
pub record AllHaveRows : Type 0 where
  pub images : (fault : StoreFault) → IsTrue (has_row (image_subject fault))
  pub files : (fault : FileFault) → IsTrue (has_row (File fault))
  pub lines : (fault : ScriptFault) → IsTrue (has_row (line_subject fault))
  pub blanks : (fault : BlankFault) → IsTrue (has_row (blank_subject fault))
  pub outputs : (fault : MigrateFault) → IsTrue (has_row (output_subject fault))
  pub parts : IsTrue (has_row EmptyPart)
  pub changes : (change : FileChange) → IsTrue (has_row (Change change))
  pub refusals : (refusal : Refusal) → IsTrue (has_row (Call refusal))
