-- The words of a line of the text of a database, and the values that they spell.
use Rattle.std.specs.Prelude.{◌≡◌, ℕ, ◌==◌, ◌&&◌, ◌||◌, ◌^◌, not, nat_lt, Bool, true, false, if◌then◌else◌, List, [], ◌∷◌, length, codes, Option, Some, None, is_some, Result, Ok, Err}
use Rattle.std.specs.List.{list_all}
use Rattle.std.specs.Option.{option_and_then, option_map_or}
use Rattle.std.specs.Char.{is_ascii_alphabetic, is_ascii_digit}
use Rattle.std.specs.Str.{bytes_eq}
use Rattle.heap_model.specs.Database.{Entry, a_record, a_resource, is_deleted}
use Rattle.script_lines.specs.Spellings.{hex_below, number_below, spelled_four, spelled_text}
use Rattle.script_lines.specs.declared.fault.ScriptFault.{ScriptFault}
use Rattle.script_lines.specs.declared.fault.ScriptFault.TheVariants.{UnknownCommand, WrongCount, BadWord}

-- ---- the names of parts

-- the name of a part begins with a letter, a digit or `_`; after that it may also have `-` and `.`
abbrev pub begins_name : ℕ → Bool
begins_name b = is_ascii_alphabetic b || is_ascii_digit b || b == 95

abbrev pub is_name_byte : ℕ → Bool
is_name_byte b = begins_name b || b == 45 || b == 46

-- whether a name of a part may have these bytes
abbrev pub has_name_bytes : List ℕ → Bool
has_name_bytes [] = false
has_name_bytes (b ∷ bs) = begins_name b && list_all is_name_byte bs

-- The name of a part, if a word is one. It names no other folder, and not the text itself.
abbrev pub part_name : List ℕ → Option (List ℕ)
part_name word = if has_name_bytes word && not (bytes_eq word (codes "database")) then Some word else None

-- a part, or none
abbrev pub spelled_part : List ℕ → Option (Option (List ℕ))
spelled_part word = if bytes_eq word (codes "none") then Some None else option_map_or (λ name. Some (Some name)) (part_name word) None

-- the part, which may be `none` only if `may_miss`
abbrev pub unless_missing : Bool → Option (List ℕ) → Option (Option (List ℕ))
unless_missing may_miss part = if is_some part || may_miss then Some part else None

abbrev pub part_or : Bool → List ℕ → Option (Option (List ℕ))
part_or may_miss word = option_and_then (unless_missing may_miss) (spelled_part word)

-- ---- other values

-- whether a text is the name of a database: 1 to 31 bytes, none of them zero
abbrev pub is_name : List ℕ → Bool
is_name text = nat_lt 0 (length text) && nat_lt (length text) 32 && list_all (nat_lt 0) text

abbrev pub name_if : List ℕ → Option (List ℕ)
name_if text = if is_name text then Some text else None

abbrev pub spelled_name : List ℕ → Option (List ℕ)
spelled_name word = option_and_then name_if (spelled_text word)

-- ---- the words of a line

-- the words after the first one of a line that has to begin with this word
abbrev pub words_after : List ℕ → Result (List (List ℕ)) ℕ → Result (List (List ℕ)) ScriptFault
words_after word (Err number) = Err (BadWord number)
words_after word (Ok []) = Err UnknownCommand
words_after word (Ok (first ∷ words)) = if bytes_eq first word then Ok words else Err UnknownCommand

-- the only word; there must be exactly one
abbrev pub only_word : Result (List (List ℕ)) ScriptFault → Result (List ℕ) ScriptFault
only_word (Err fault) = Err fault
only_word (Ok []) = Err WrongCount
only_word (Ok (word ∷ [])) = Ok word
only_word (Ok (word ∷ other ∷ words)) = Err WrongCount

-- goes on with a value, or reports the word with this number if there is none
abbrev pub or_bad : {A B : Type 0} → ℕ → Option A → (A → Result B ScriptFault) → Result B ScriptFault
or_bad number None go_on = Err (BadWord number)
or_bad number (Some value) go_on = go_on value

-- a value, or the fault of the word with this number if there is none
abbrev pub IsGoodWord : {A : Type 0} → ℕ → Option A → Result A ScriptFault → Type 0
IsGoodWord number None result = result ≡ Err (BadWord number)
IsGoodWord number (Some value) result = result ≡ Ok value

-- the first word of the line of an entry
abbrev pub entry_word : Bool → List ℕ
entry_word true = codes "resource"
entry_word false = codes "record"

-- the record of three words: its attributes in hex, its ID, and its part, which may be `none` if
-- the record is deleted
abbrev pub record_of_words : List ℕ → List ℕ → List ℕ → Result (Entry (Option (List ℕ))) ScriptFault
record_of_words attributes id part =
    or_bad 2 (hex_below (2 ^ 8) attributes) (λ attributes.
    or_bad 3 (number_below (2 ^ 24) id) (λ id.
    or_bad 4 (part_or (is_deleted attributes) part) (λ part.
    Ok (a_record attributes id part))))

-- the resource of three words: its type, its id, and its part
abbrev pub resource_of_words : List ℕ → List ℕ → List ℕ → Result (Entry (Option (List ℕ))) ScriptFault
resource_of_words kind id part =
    or_bad 2 (spelled_four kind) (λ kind.
    or_bad 3 (number_below (2 ^ 16) id) (λ id.
    or_bad 4 (part_or false part) (λ part.
    Ok (a_resource kind id part))))

abbrev pub entry_of_words : Bool → List ℕ → List ℕ → List ℕ → Result (Entry (Option (List ℕ))) ScriptFault
entry_of_words true first second third = resource_of_words first second third
entry_of_words false first second third = record_of_words first second third

-- the entry that the words after the first one spell; there must be exactly three
abbrev pub three_words : Bool → List (List ℕ) → Result (Entry (Option (List ℕ))) ScriptFault
three_words resources [] = Err WrongCount
three_words resources (first ∷ []) = Err WrongCount
three_words resources (first ∷ second ∷ []) = Err WrongCount
three_words resources (first ∷ second ∷ third ∷ []) = entry_of_words resources first second third
three_words resources (first ∷ second ∷ third ∷ fourth ∷ words) = Err WrongCount

abbrev pub read_entry : Bool → Result (List (List ℕ)) ScriptFault → Result (Entry (Option (List ℕ))) ScriptFault
read_entry resources (Err fault) = Err fault
read_entry resources (Ok words) = three_words resources words
