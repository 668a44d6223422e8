-- How a script is read from its text: its lines, or the first faulty one.
use Rattle.std.specs.Prelude.{◌==◌, ◌≤◌, ℕ, ◌+◌, if◌then◌else◌, List, [], ◌∷◌, ◌++◌, length, Option, Some, None, Result, Ok, Err}
use Rattle.std.specs.Option.{option_map_or, option_to_list}
use Rattle.std.specs.Result.{result_unwrap_or}
use Rattle.std.specs.Str.Lines.{lines}
use Rattle.script_lines.specs.declared.fault.LineFault.{LineFault}
use Rattle.script_lines.specs.declared.fault.ScriptFault.{ScriptFault}
use Rattle.script_lines.specs.declared.fault.ScriptFault.TheVariants.{UnknownCommand, WrongCount, BadWord}
use Rattle.script_commands.specs.declared.line.Line.{Line}
use Rattle.script_commands.specs.declared.command.Command.{Command}
use Rattle.script_commands.specs.declared.value.Kind.{Kind}
use Rattle.script_lines.specs.Numbering.{Numberings, none_numbered}
use Rattle.script_lines.specs.Words.{is_passed_over, words_of}
use Rattle.script_lines.specs.Kinds.{WordsRead, read_words}
use Rattle.script_commands.specs.Commands.{kinds_of, line_of, command_of}

-- a line that was read, or none if it is passed over; and the labels that have appeared up to its
-- end
pub record LineRead : Type 0 where
  pub line : Option Line
  pub labels : Numberings

abbrev pub line_read : Option Line → Numberings → LineRead
line_read line labels = record { line = line; labels = labels }

-- the state of reading at the start of a line: no words yet
abbrev pub none_read : Numberings → WordsRead
none_read labels = record { values = []; bytes = []; labels = labels }

-- the line of a command, from what its words stand for, or the fault of these words
abbrev pub made_line : Command → Result WordsRead ScriptFault → Result LineRead ScriptFault
made_line command (Err fault) = Err fault
made_line command (Ok read) =
    option_map_or (λ line. Ok (line_read (Some line) read.labels))
    (line_of command read.values read.bytes)
    (Err WrongCount)

-- the line of a command and the words after it; a fault if there are more or fewer than it takes
abbrev pub read_command : Numberings → Command → List (List ℕ) → Result LineRead ScriptFault
read_command labels command words =
    if length (kinds_of command) == length words then
    made_line command (read_words 2 (none_read labels) (kinds_of command) words)
    else Err WrongCount

-- the line of some words; a fault if the first is not a command
abbrev pub line_of_words : Numberings → List (List ℕ) → Result LineRead ScriptFault
line_of_words labels [] = Ok (line_read None labels)
line_of_words labels (word ∷ words) =
    option_map_or (λ command. read_command labels command words) (command_of word) (Err UnknownCommand)

-- the same for words of which one may be broken; a broken word is the line's fault
abbrev pub line_unless_broken : Numberings → Result (List (List ℕ)) ℕ → Result LineRead ScriptFault
line_unless_broken labels (Ok words) = line_of_words labels words
line_unless_broken labels (Err number) = Err (BadWord number)

-- the line of a text, or its fault
abbrev pub read_line : Numberings → List ℕ → Result LineRead ScriptFault
read_line labels text =
    if is_passed_over text then Ok (line_read None labels)
    else line_unless_broken labels (words_of text)

-- the fault of the line with a number, or the result of a function of the line
abbrev pub unless_faulty : ℕ → Result LineRead ScriptFault → (LineRead → Result (List Line) LineFault)
    → Result (List Line) LineFault
unless_faulty number (Err fault) go_on = Err (record { line = number; fault = fault })
unless_faulty number (Ok read) go_on = go_on read

-- the lines `front`, and after them the lines of some texts, the first of which is line `number`
abbrev pub read_lines : ℕ → Numberings → List Line → List (List ℕ) → Result (List Line) LineFault
read_lines number labels front [] = Ok front
read_lines number labels front (text ∷ texts) =
    unless_faulty number (read_line labels text)
    (λ read. read_lines (number + 1) read.labels (front ++ option_to_list read.line) texts)

-- the lines of a script, or its first faulty line; all lines are counted, from 1
abbrev pub read_script : List ℕ → Result (List Line) LineFault
read_script text = read_lines 1 none_numbered [] (lines text)

-- a script has a line with this number
abbrev pub HasLine : List ℕ → ℕ → Type 0
HasLine text number = (1 ≤ number) × (number ≤ length (lines text))

-- the words of a text that has no broken word
abbrev pub words_in : List ℕ → List (List ℕ)
words_in text = result_unwrap_or (words_of text) []

-- what the words of a text after a command stand for
abbrev pub read_behind : Numberings → List Kind → List ℕ → Result WordsRead ScriptFault
read_behind labels kinds text = read_words 2 (none_read labels) kinds (words_in text)

-- the line of a first word and the text after it
abbrev pub line_behind : Numberings → List ℕ → List ℕ → Result LineRead ScriptFault
line_behind labels word text = line_of_words labels (word ∷ words_in text)
