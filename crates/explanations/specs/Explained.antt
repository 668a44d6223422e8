-- The rows of the table that a word is the name or number of, and their lines. Upper and lower case
-- are the same.
use Rattle.std.specs.Prelude.{ℕ, Bool, true, false, ◌||◌, ◌==◌, ◌++◌, List, [], ◌∷◌, Option, None, Some, map, codes, decimal, cond, count_by}
use Rattle.std.specs.List.{flat_map, list_any}
use Rattle.std.specs.Str.{bytes_eq, str_eq_ignore_ascii_case}
use Rattle.std.specs.Borrow.{Bor}
use Rattle.heap_model.specs.Numbers.{number_of}
use Rattle.heap_model.specs.Files.{file_fault_name}
use Rattle.chunk_format.specs.FaultNames.{blank_fault_name}
use Rattle.heap_check.specs.Faults.{heap_fault_name}
use Rattle.heap_migration.specs.FaultNames.{migrate_fault_name}
use Rattle.store_check.specs.Faults.{store_fault_name}
use Rattle.script_lines.specs.FaultNames.{script_fault_name}
use Rattle.explanations.specs.Subjects.{change_name, subject_name, subject_number, topic_text}
use Rattle.explanations.specs.declared.table.TheConstants.{SECTIONS, IMAGE_ROWS, DATABASE_ROWS, FILE_ROWS, LINE_ROWS, SIZE_ROWS, CHANGE_ROWS, FIRST_CALL_ROWS, NEXT_CALL_ROWS, LAST_CALL_ROWS}
use Rattle.explanations.specs.declared.table.Section.{Section}
use Rattle.explanations.specs.declared.table.Section.TheVariants.{Images, Databases as DatabaseSection, Files, Lines, Sizes, Changes, FirstCalls, NextCalls, LastCalls}
use Rattle.explanations.specs.declared.table.Subject.{Subject}
use Rattle.explanations.specs.declared.table.Subject.TheVariants.{Heap, Databases, File, Line, Blank, Output, EmptyPart, Change, Call}

-- a row of the table: what it explains, its values and its text
abbrev pub Explanation : Type 0
Explanation = Subject × (List ℕ × List ℕ)

-- a row that the program reads, and all of some rows
abbrev pub row_read : Subject × (Bor (List ℕ) × Bor (List ℕ)) → Explanation
row_read row = (row.0, (row.1.0.now, row.1.1.now))

abbrev pub rows_read : List (Subject × (Bor (List ℕ) × Bor (List ℕ))) → List Explanation
rows_read rows = map row_read rows

-- a row of the program's table
abbrev row_kept : Subject × (record { now : List ℕ } × record { now : List ℕ }) → Explanation
row_kept row = (row.0, (row.1.0.now, row.1.1.now))

-- the rows of a section of the table
abbrev pub section_rows : Section → List Explanation
section_rows Images = map row_kept IMAGE_ROWS
section_rows DatabaseSection = map row_kept DATABASE_ROWS
section_rows Files = map row_kept FILE_ROWS
section_rows Lines = map row_kept LINE_ROWS
section_rows Sizes = map row_kept SIZE_ROWS
section_rows Changes = map row_kept CHANGE_ROWS
section_rows FirstCalls = map row_kept FIRST_CALL_ROWS
section_rows NextCalls = map row_kept NEXT_CALL_ROWS
section_rows LastCalls = map row_kept LAST_CALL_ROWS

-- the rows of some sections, one section after another
abbrev pub rows_of_sections : List Section → List Explanation
rows_of_sections sections = flat_map section_rows sections

-- the table
abbrev pub all_rows : List Explanation
all_rows = rows_of_sections SECTIONS

-- the number of a refusal and a space, or nothing for a fault
abbrev pub number_text : Option ℕ → List ℕ
number_text None = []
number_text (Some number) = decimal number ++ codes " "

-- the line of a row
abbrev pub explained_line : Explanation → List ℕ
explained_line row = number_text (subject_number row.0) ++ (subject_name row.0 ++ (row.1.0 ++ (topic_text row.0 ++ (row.1.1 ++ codes ".\n"))))

-- whether a word is the number of a refusal, in decimal
abbrev pub is_number : Option ℕ → List ℕ → Bool
is_number None word = false
is_number (Some number) word = bytes_eq (decimal number) word

-- whether a word is the name or number of a row
abbrev pub is_asked : List ℕ → Explanation → Bool
is_asked word row = str_eq_ignore_ascii_case (subject_name row.0) word || is_number (subject_number row.0) word

-- the line of a row, or nothing if the word is neither its name nor its number
abbrev pub line_if_asked : List ℕ → Explanation → List ℕ
line_if_asked word row = cond (is_asked word row) (explained_line row) []

-- the lines of the rows with this name or number, in the order of the table
abbrev pub answers : List ℕ → List Explanation → List ℕ
answers word [] = []
answers word (row ∷ rows) = line_if_asked word row ++ answers word rows

-- whether a word is the name or number of one of some rows
abbrev pub is_among : List ℕ → List Explanation → Bool
is_among word rows = list_any (is_asked word) rows

-- whether two subjects have the same row: two refusals with the same number, or two faults of one
-- kind, or two changes, with the same name
abbrev pub same_subject : Subject → Subject → Bool
same_subject (Heap fault) (Heap other) = bytes_eq (heap_fault_name fault) (heap_fault_name other)
same_subject (Databases fault) (Databases other) = bytes_eq (store_fault_name fault) (store_fault_name other)
same_subject (File fault) (File other) = bytes_eq (file_fault_name fault) (file_fault_name other)
same_subject (Line fault) (Line other) = bytes_eq (script_fault_name fault) (script_fault_name other)
same_subject (Blank fault) (Blank other) = bytes_eq (blank_fault_name fault) (blank_fault_name other)
same_subject (Output fault) (Output other) = bytes_eq (migrate_fault_name fault) (migrate_fault_name other)
same_subject EmptyPart EmptyPart = true
same_subject (Change change) (Change other) = bytes_eq (change_name change) (change_name other)
same_subject (Call refusal) (Call other) = number_of refusal == number_of other
same_subject subject other = false

-- whether the table has exactly one row for a fault, a change or a refusal
abbrev pub has_row : Subject → Bool
has_row subject = count_by (λ row. same_subject row.0 subject) all_rows == 1
