-- The numbers of lines, and lines that import a file that was not given.
use Rattle.std.specs.Prelude.{ℕ, ◌+◌, ◌||◌, ◌==◌, nat_lt, cond, List, [], ◌∷◌, ◌++◌}
use Rattle.script_lines.specs.Words.{is_passed_over}
use Rattle.script_commands.specs.declared.line.Line.{Line}
use Rattle.script_commands.specs.declared.line.Line.TheVariants.{Bind, Print, Silent, BindChunk, BindDatabase, Import, Export}
use Rattle.hints.specs.declared.imports.MissingFile.{MissingFile}

-- the numbers of the lines that are run, if this is the number of the first line
abbrev pub line_numbers : ℕ → List (List ℕ) → List ℕ
line_numbers number [] = []
line_numbers number (text ∷ texts) = cond (is_passed_over text) (line_numbers (number + 1) texts) (number ∷ line_numbers (number + 1) texts)

-- The line of this number, if it imports a file that was not given. `count` is the number of given
-- files. They are counted from 1.
abbrev pub missing_in : (count : ℕ) → Line → (number : ℕ) → List MissingFile
missing_in count (Import label file) number = cond ((file == 0) || nat_lt count file) (record { line = number; file = file } ∷ []) []
missing_in count (Bind label name) number = []
missing_in count (Print call) number = []
missing_in count (Silent call) number = []
missing_in count (BindChunk label call) number = []
missing_in count (BindDatabase label call) number = []
missing_in count (Export label) number = []

-- the lines that import a file that was not given, each with its number
abbrev pub missing_files : (count : ℕ) → List Line → List ℕ → List MissingFile
missing_files count [] numbers = []
missing_files count (line ∷ lines) [] = []
missing_files count (line ∷ lines) (number ∷ numbers) = missing_in count line number ++ missing_files count lines numbers
