-- What the rows of the table explain: faults, refusals and changes.
use Rattle.std.specs.Prelude.{ℕ, List, Option, None, Some, codes}
use Rattle.heap_model.specs.Numbers.{name_of, number_of}
use Rattle.heap_model.specs.Files.{file_fault_name}
use Rattle.chunk_format.specs.FaultNames.{blank_fault_name}
use Rattle.heap_check.specs.Faults.{heap_fault_name}
use Rattle.heap_migration.specs.FaultNames.{migrate_fault_name}
use Rattle.store_check.specs.Faults.{store_fault_name}
use Rattle.script_lines.specs.FaultNames.{script_fault_name}
use Rattle.explanations.specs.declared.table.FileChange.{FileChange}
use Rattle.explanations.specs.declared.table.FileChange.TheVariants as changes
use Rattle.explanations.specs.declared.table.Subject.{Subject}
use Rattle.explanations.specs.declared.table.Subject.TheVariants.{Heap, Databases, File, Line, Blank, Output, EmptyPart, Change, Call}

-- the name of a change in a rewritten file
abbrev pub change_name : FileChange → List ℕ
change_name changes.Busy = codes "busy"
change_name changes.Filler = codes "filler"
change_name changes.Ids = codes "ids"
change_name changes.Name = codes "name"
change_name changes.Order = codes "order"

-- the name that is printed
abbrev pub subject_name : Subject → List ℕ
subject_name (Heap fault) = heap_fault_name fault
subject_name (Databases fault) = store_fault_name fault
subject_name (File fault) = file_fault_name fault
subject_name (Line fault) = script_fault_name fault
subject_name (Blank fault) = blank_fault_name fault
subject_name (Output fault) = migrate_fault_name fault
subject_name EmptyPart = codes "EmptyPart"
subject_name (Change change) = change_name change
subject_name (Call refusal) = name_of refusal

-- the number of a refusal; faults and changes have none
abbrev pub subject_number : Subject → Option ℕ
subject_number (Call refusal) = Some (number_of refusal)
subject_number subject = None

-- the text after the name, which says what has it
abbrev pub topic_text : Subject → List ℕ
topic_text (Heap fault) = codes ", a fault of an image: "
topic_text (Databases fault) = codes ", a fault of the databases of an image: "
topic_text (File fault) = codes ", a fault of a PDB or PRC file: "
topic_text (Line fault) = codes ", a fault of a line: "
topic_text (Blank fault) = codes ", a fault of 'new' and 'import': "
topic_text (Output fault) = codes ", a fault of 'migrate', 'pack', 'put', 'canonical --keep' and 'import': "
topic_text EmptyPart = codes ", a fault of 'put': "
topic_text (Change change) = codes ", a change in a rewritten file: "
topic_text (Call refusal) = codes ", a refusal: "
