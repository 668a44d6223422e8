-- The reader of the text of a database. It returns the database, with names of parts instead of
-- data, or the first faulty line. It skips the same lines as in scripts.
use Rattle.std.specs.Prelude.{◌≡◌, ◌≢◌, ◌==◌, ◌+◌, ◌^◌, ℕ, Bool, if◌then◌else◌, List, [], ◌∷◌, ◌++◌, length, codes, Option, Some, None, Result, Ok, Err}
use Rattle.std.specs.Option.{option_map_or}
use Rattle.std.specs.Str.Lines.{lines}
use Rattle.heap_model.specs.Database.{DatabaseHeader, Database, Entry, has_resources}
use Rattle.script_lines.specs.Words.{is_passed_over, words_of}
use Rattle.script_lines.specs.Spellings.{hex_below, number_below, spelled_four}
use Rattle.script_lines.specs.declared.fault.LineFault.{LineFault}
use Rattle.script_lines.specs.declared.fault.ScriptFault.{ScriptFault}
use Rattle.script_lines.specs.declared.fault.ScriptFault.TheVariants.{WrongCount, BadWord, OutOfMemory}
use Rattle.file_parts.specs.Left.{Left, left}
use Rattle.file_parts.specs.Words.{entry_word, only_word, read_entry, spelled_name, spelled_part, words_after}
use Rattle.file_parts.specs.declared.header.Title.{Title}
use Rattle.file_parts.specs.declared.header.Counts.{Counts}
use Rattle.file_parts.specs.declared.header.Kinds.{Kinds}
use Rattle.file_parts.specs.declared.header.Infos.{Infos}
use Rattle.file_parts.specs.declared.header.Head.{Head}

-- ---- lines

-- the next line that isn't skipped, and the lines that are left then
abbrev pub next_of : ℕ → List (List ℕ) → Option (List ℕ × Left)
next_of number [] = None
next_of number (text ∷ texts) = if is_passed_over text then next_of (number + 1) texts else Some (text, left (number + 1) texts)

-- a value that was read and what is left, or the first faulty line
abbrev pub Read : Type 0 → Type 0
Read A = Result (A × Left) LineFault

-- a line's fault
abbrev pub fault_in : ℕ → ScriptFault → LineFault
fault_in line fault = record { line = line; fault = fault }

-- the result of reading the last line
abbrev pub read_at : {A : Type 0} → Left → Result A ScriptFault → Read A
read_at rest (Err fault) = Err (fault_in rest.number fault)
read_at rest (Ok value) = Ok (value, rest)

-- goes on with a value
abbrev pub then_read : {A B : Type 0} → Read A → (A → Left → Read B) → Read B
then_read (Err fault) go_on = Err fault
then_read (Ok both) go_on = go_on both.0 both.1

-- The function returns what is read: a value and the lines that are left, or a line's fault. It
-- never reports out of memory.
abbrev pub Gives : {A : Type 0} → Read A → Result A LineFault → Left → Type 0
Gives read (Ok value) rest = read ≡ Ok (value, rest)
Gives read (Err fault) rest = (read ≡ Err fault) × (fault.fault ≢ OutOfMemory)

-- a value, or the fault of the second word of the last line
abbrev pub IsGood : {A : Type 0} → Left → Option A → Result A LineFault → Type 0
IsGood rest None result = result ≡ Err (fault_in rest.number (BadWord 2))
IsGood rest (Some value) result = result ≡ Ok value

-- ---- the lines of the header

-- The second and last word of the next line, which begins with `word`. A missing line has too few
-- words.
abbrev pub one_word : List ℕ → Left → Read (List ℕ)
one_word word rest =
    option_map_or (λ next. read_at next.1 (only_word (words_after word (words_of next.0))))
    (next_of rest.number rest.texts)
    (Err (fault_in (rest.number + length rest.texts + 1) WrongCount))

-- the value that this word spells
abbrev pub spelled_at : {A : Type 0} → (List ℕ → Option A) → List ℕ → Left → Read A
spelled_at spelled word rest = option_map_or (λ value. Ok (value, rest)) (spelled word) (Err (fault_in rest.number (BadWord 2)))

abbrev pub field : {A : Type 0} → List ℕ → (List ℕ → Option A) → Left → Read A
field word spelled rest = then_read (one_word word rest) (spelled_at spelled)

abbrev pub number : List ℕ → Option ℕ
number word = number_below (2 ^ 32) word

abbrev pub read_title : Left → Read Title
read_title rest =
    then_read (field (codes "name") spelled_name rest) (λ name rest.
    then_read (field (codes "attributes") (hex_below (2 ^ 16)) rest) (λ attributes rest.
    then_read (field (codes "version") (number_below (2 ^ 16)) rest) (λ version rest.
    Ok (record { name = name; attributes = attributes; version = version }, rest))))

abbrev pub read_counts : Left → Read Counts
read_counts rest =
    then_read (field (codes "created") number rest) (λ created rest.
    then_read (field (codes "modified") number rest) (λ modified rest.
    then_read (field (codes "backup") number rest) (λ backup rest.
    then_read (field (codes "number") number rest) (λ count rest.
    Ok (record { created = created; modified = modified; backup = backup; number = count }, rest)))))

abbrev pub read_kinds : Left → Read Kinds
read_kinds rest =
    then_read (field (codes "type") spelled_four rest) (λ kind rest.
    then_read (field (codes "creator") spelled_four rest) (λ creator rest.
    then_read (field (codes "seed") (hex_below (2 ^ 32)) rest) (λ seed rest.
    Ok (record { kind = kind; creator = creator; seed = seed }, rest))))

abbrev pub read_infos : Left → Read Infos
read_infos rest =
    then_read (field (codes "app") spelled_part rest) (λ app rest.
    then_read (field (codes "sort") spelled_part rest) (λ sort rest.
    Ok (record { app = app; sort = sort }, rest)))

-- all of them
abbrev pub read_head : Left → Read Head
read_head rest =
    then_read (read_title rest) (λ title rest.
    then_read (read_counts rest) (λ counts rest.
    then_read (read_kinds rest) (λ kinds rest.
    then_read (read_infos rest) (λ infos rest.
    Ok (record { title = title; counts = counts; kinds = kinds; infos = infos }, rest)))))

-- ---- the lines of the entries

-- the entry of a line after the entries before it, of which there may be at most 65,534
abbrev pub one_more : Bool → List (Entry (Option (List ℕ))) → List ℕ → Result (Entry (Option (List ℕ))) ScriptFault
one_more resources front text =
    if length front == 65535 then Err (BadWord 1) else read_entry resources (words_after (entry_word resources) (words_of text))

-- goes on with an entry
abbrev pub unless_bad : ℕ → Result (Entry (Option (List ℕ))) ScriptFault → (Entry (Option (List ℕ)) → Result (List (Entry (Option (List ℕ)))) LineFault) → Result (List (Entry (Option (List ℕ)))) LineFault
unless_bad line (Err fault) go_on = Err (fault_in line fault)
unless_bad line (Ok entry) go_on = go_on entry

-- the entries of the lines, after the entries before them
abbrev pub read_entries : Bool → List (Entry (Option (List ℕ))) → ℕ → List (List ℕ) → Result (List (Entry (Option (List ℕ)))) LineFault
read_entries resources front number [] = Ok front
read_entries resources front number (text ∷ texts) =
    if is_passed_over text then read_entries resources front (number + 1) texts
    else unless_bad (number + 1) (one_more resources front text) (λ entry. read_entries resources (front ++ entry ∷ []) (number + 1) texts)

-- ---- all of it

abbrev pub header_with : Title → Counts → Kinds → DatabaseHeader
header_with title counts kinds = record {
  name = title.name;
  attributes = title.attributes;
  version = title.version;
  creation_date = counts.created;
  modification_date = counts.modified;
  backup_date = counts.backup;
  modification_number = counts.number;
  kind = kinds.kind;
  creator = kinds.creator;
  seed = kinds.seed;
}

abbrev pub database_with : DatabaseHeader → Infos → Result (List (Entry (Option (List ℕ)))) LineFault → Result (Database (Option (List ℕ))) LineFault
database_with header infos (Err fault) = Err fault
database_with header infos (Ok entries) = Ok (record { header = header; app_info = infos.app; sort_info = infos.sort; entries = entries })

abbrev pub unless_fault : {A : Type 0} → Read A → (A → Left → Result (Database (Option (List ℕ))) LineFault) → Result (Database (Option (List ℕ))) LineFault
unless_fault (Err fault) go_on = Err fault
unless_fault (Ok both) go_on = go_on both.0 both.1

-- the database of the lines that are left, or the first faulty line
abbrev pub read_database_from : Left → Result (Database (Option (List ℕ))) LineFault
read_database_from rest =
    unless_fault (read_head rest) (λ head rest.
    database_with (header_with head.title head.counts head.kinds) head.infos (read_entries (has_resources head.title.attributes) [] rest.number rest.texts))

-- the database of a text, or its first faulty line
unfoldable pub read_database : List ℕ → Result (Database (Option (List ℕ))) LineFault
read_database text = read_database_from (left 0 (lines text))
