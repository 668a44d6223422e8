-- What is wrong with the faulty line of a script, or of the text that `pack` reads.
use Rattle.std.specs.Prelude.{ℕ, zero, suc, Bool, ◌||◌, ◌==◌, List, [], ◌∷◌, length, map, codes, if◌then◌else◌, Option, None, Some, Result, Ok, Err}
use Rattle.std.specs.List.{slice_get}
use Rattle.std.specs.Option.{option_and_then, option_map_or}
use Rattle.std.specs.Str.{bytes_eq}
use Rattle.std.specs.Str.Lines.{lines}
use Rattle.script_commands.specs.Commands.{command_of, kinds_of}
use Rattle.script_commands.specs.declared.value.Kind.{Kind}
use Rattle.script_commands.specs.declared.value.Kind.TheVariants.{Chunk, Database, Byte, Short, Number, Flag, Which, Bytes, Text, FourBytes}
use Rattle.script_lines.specs.Words.{words_of}
use Rattle.script_lines.specs.declared.fault.LineFault.{LineFault}
use Rattle.script_lines.specs.declared.fault.ScriptFault.{ScriptFault}
use Rattle.script_lines.specs.declared.fault.ScriptFault.TheVariants.{UnknownCommand, WrongCount, BadWord, OutOfMemory}
use Rattle.hints.specs.declared.faulty_lines.TextKind.{TextKind}
use Rattle.hints.specs.declared.faulty_lines.TextKind.TheVariants.{Script, Parts}
use Rattle.hints.specs.declared.faulty_lines.Wanted.{Wanted}
use Rattle.hints.specs.declared.faulty_lines.Wanted.TheVariants.{Command, Part}
use Rattle.hints.specs.declared.faulty_lines.LineHint.{LineHint}
use Rattle.hints.specs.declared.faulty_lines.LineHint.TheVariants.{Unknown, Count, Broken, Wrong}

-- ---- what words have to be

abbrev wanted_short : List ℕ
wanted_short = codes "a number below 65536"

abbrev wanted_number : List ℕ
wanted_number = codes "a number below 4294967296"

abbrev wanted_four : List ℕ
wanted_four = codes "a text of four bytes, as \"DATA\""

abbrev wanted_part : List ℕ
wanted_part = codes "the name of a part (letters, digits, _, - and .), or none"

abbrev wanted_record_part : List ℕ
wanted_record_part = codes "the name of a part (letters, digits, _, - and .); only a deleted record may have none"

abbrev wanted_after_name : List ℕ
wanted_after_name = codes "all bytes after the name, up to the 32nd, in hex; the first of two or more is 00"

abbrev wanted_block : List ℕ
wanted_block = codes "a block with a part that no earlier line names: app, sort or the index of an entry"

abbrev wanted_resource_part : List ℕ
wanted_resource_part = codes "the name of a part (letters, digits, _, - and .), which each resource has"

-- what a word of this kind has to be
abbrev pub wanted_of_kind : Kind → List ℕ
wanted_of_kind Chunk = codes "a label (a letter, then up to 30 letters, digits or _)"
wanted_of_kind Database = codes "a label (a letter, then up to 30 letters, digits or _)"
wanted_of_kind Byte = codes "a number below 256"
wanted_of_kind Short = wanted_short
wanted_of_kind Number = wanted_number
wanted_of_kind Flag = codes "0 or 1"
wanted_of_kind Which = codes "app or sort"
wanted_of_kind FourBytes = wanted_four
wanted_of_kind Bytes = codes "bytes in hex, two digits a byte, or -"
wanted_of_kind Text = codes "a text, as \"Memos\" or x:4d656d6f73"

-- What the first word of a script's line has to be, and what the others have to be after this first
-- word. No others are known after a word that is no command.
abbrev pub wanted_command : List ℕ
wanted_command = codes "a command"

abbrev pub wanted_after_command : List ℕ → List (List ℕ)
wanted_after_command first = option_map_or (λ command. map wanted_of_kind (kinds_of command)) (command_of first) []

-- The same for the text that `pack` reads. There a first word is wrong if 65,535 entries come before
-- its line.
abbrev pub wanted_entry : List ℕ
wanted_entry = codes "among the first 65535 entries"

-- the first words of lines with a number below 2^32, with a text of four bytes, and with a part
abbrev pub takes_number : List ℕ → Bool
takes_number first = bytes_eq first (codes "created") || bytes_eq first (codes "modified") || bytes_eq first (codes "backup") || bytes_eq first (codes "number")

abbrev pub takes_four_bytes : List ℕ → Bool
takes_four_bytes first = bytes_eq first (codes "type") || bytes_eq first (codes "creator")

abbrev pub takes_part : List ℕ → Bool
takes_part first = bytes_eq first (codes "app") || bytes_eq first (codes "sort") || bytes_eq first (codes "filler")

abbrev pub wanted_after_first : List ℕ → List (List ℕ)
wanted_after_first first =
    if bytes_eq first (codes "name") then codes "a text of 1 to 31 bytes, as \"MemoDB\"" ∷ []
    else if bytes_eq first (codes "attributes") then codes "a hex number below 10000" ∷ []
    else if bytes_eq first (codes "version") then wanted_short ∷ []
    else if takes_number first then wanted_number ∷ []
    else if takes_four_bytes first then wanted_four ∷ []
    else if bytes_eq first (codes "seed") then codes "a hex number below 100000000" ∷ []
    else if takes_part first then wanted_part ∷ []
    else if bytes_eq first (codes "namefield") then wanted_after_name ∷ []
    else if bytes_eq first (codes "order") then wanted_block ∷ []
    else if bytes_eq first (codes "record") then codes "a hex number below 100" ∷ codes "a number below 16777216" ∷ wanted_record_part ∷ []
    else if bytes_eq first (codes "resource") then wanted_four ∷ wanted_short ∷ wanted_resource_part ∷ []
    else []

-- ---- what is wrong

-- The first word may not begin this line. The line has this number of words after the first one, and
-- needs that number. The quoted word with this number isn't closed, or another byte follows it
-- directly. This word isn't what it has to be.
pub data Hint : Type 0 where
  unknown_first : List ℕ → Hint
  counted_words : ℕ → ℕ → Hint
  broken_word : ℕ → Hint
  wrong_word : List ℕ → List ℕ → Hint

-- the hint that is returned, with the bytes of its words
abbrev pub hint_of : LineHint → Hint
hint_of (Unknown word) = unknown_first word.now
hint_of (Count found wanted) = counted_words found wanted
hint_of (Broken number) = broken_word number
hint_of (Wrong word wanted) = wrong_word word.now wanted.now

-- an item by its number, counted from 1
abbrev pub item_numbered : {A : Type 0} → List A → ℕ → Option A
item_numbered items zero = None
item_numbered items (suc index) = slice_get items index

-- the word that isn't what it has to be
abbrev pub compared : Option (List ℕ) → Option (List ℕ) → Option Hint
compared (Some word) (Some wanted) = Some (wrong_word word wanted)
compared word wanted = None

-- What is wrong with a line of these words, by its fault. `first_wanted` and `others` have what the
-- first word and the others have to be.
abbrev pub hint_of_words : (first_wanted : List ℕ) → (others : List (List ℕ)) → (words : List (List ℕ)) → ScriptFault → Option Hint
hint_of_words first_wanted others [] fault = None
hint_of_words first_wanted others (first ∷ words) UnknownCommand = Some (unknown_first first)
hint_of_words first_wanted others (first ∷ words) WrongCount = Some (counted_words (length words) (length others))
hint_of_words first_wanted others (first ∷ words) (BadWord number) = compared (item_numbered (first ∷ words) number) (item_numbered (first_wanted ∷ others) number)
hint_of_words first_wanted others (first ∷ words) OutOfMemory = None

-- the first word, or no bytes if there is none
abbrev pub first_word_of : List (List ℕ) → List ℕ
first_word_of [] = []
first_word_of (word ∷ words) = word

-- What is wrong with a line whose word with this number is broken. A line with another fault has no
-- hint: entry 65,536 of a text for `pack` is refused before its words are read.
abbrev pub hint_of_broken : ℕ → ScriptFault → Option Hint
hint_of_broken number (BadWord faulty) = if faulty == number then Some (broken_word number) else None
hint_of_broken number fault = None

-- What is wrong with a line of these words, of which one may be broken. `others` has what the words
-- after each first word have to be.
abbrev pub hint_of_line : (first_wanted : List ℕ) → (others : List ℕ → List (List ℕ)) → (words : Result (List (List ℕ)) ℕ) → ScriptFault → Option Hint
hint_of_line first_wanted others (Err number) fault = hint_of_broken number fault
hint_of_line first_wanted others (Ok words) fault = hint_of_words first_wanted (others (first_word_of words)) words fault

-- the same for the faulty line of a text, if the text has it
abbrev pub hint_of_text : (first_wanted : List ℕ) → (others : List ℕ → List (List ℕ)) → (text : List ℕ) → LineFault → Option Hint
hint_of_text first_wanted others text fault =
    option_and_then (λ line. hint_of_line first_wanted others (words_of line) fault.fault) (item_numbered (lines text) fault.line)

abbrev pub script_hint : List ℕ → LineFault → Option Hint
script_hint script fault = hint_of_text wanted_command wanted_after_command script fault

abbrev pub parts_hint : List ℕ → LineFault → Option Hint
parts_hint text fault = hint_of_text wanted_entry wanted_after_first text fault

-- ---- the same of the program's values

abbrev pub first_wanted_of : Wanted → List ℕ
first_wanted_of (Command kinds) = wanted_command
first_wanted_of (Part texts) = wanted_entry

abbrev pub first_wanted_in : TextKind → List ℕ
first_wanted_in Script = wanted_command
first_wanted_in Parts = wanted_entry

abbrev pub others_wanted_in : TextKind → List ℕ → List (List ℕ)
others_wanted_in Script = wanted_after_command
others_wanted_in Parts = wanted_after_first

abbrev pub others_wanted_of : Wanted → List (List ℕ)
others_wanted_of (Command kinds) = map wanted_of_kind kinds.now
others_wanted_of (Part texts) = map (λ text. text.now) texts.now
