-- Scripts that are run line by line, while they are read.
use Rattle.std.specs.Prelude.{◌≡◌, ◌≢◌, ◌⊎◌, ◌+◌, ◌++◌, ◌∷◌, [], ℕ, List, Option, Ok, Err, IfSome, false, length}
use Rattle.std.specs.Io.KnownBytes.{Appends}
use Rattle.std.specs.Str.Lines.{lines}
use Rattle.heap_model.specs.Memory.{Memory as Region}
use Rattle.heap_model.specs.declared.call.Reply.{Reply}
use Rattle.palm_text.specs.Counted.{Flushes, Writing, Writes}
use Rattle.palm_text.specs.Output.{IsUnused, Output, output}
use Rattle.program_io.specs.Status.{IsOfReading}
use Rattle.program_io.specs.declared.input.InputFault.TheVariants.{Memory as InputMemory}
use Rattle.script_lines.specs.Reading.{read_script}
use Rattle.script_lines.specs.declared.line.Line.{Line}
use Rattle.script_calls.specs.Lines.{Bindings, Labelled, LineStep, Lines, Setting, labelled, reply_line, unbound}
use Rattle.live_scripts.specs.declared.fault.LiveFault.{LiveFault}
use Rattle.live_scripts.specs.declared.fault.LiveFault.TheVariants as faults

-- A text was written, and flushed any number of times. No write failed.
abbrev pub Prints : {W : Type 0} → (W → Option (List ℕ)) → Writing W → Writing W → List ℕ → Type 0
Prints contents old new text = Appends (contents old.writer) (contents new.writer) text × (new.faults ≡ old.faults)

-- The text is a script, and its lines were run as those of any script: their calls in order, from
-- this region and with no label bound. All of their reply lines were printed. `files` are the files
-- that they export.
pub record RunsText {W : Type 0} (given : Setting) (text : List ℕ) (old new : Region) (out : Output W) (files : List (List ℕ)) : Type 0 where
  pub ran_lines : List Line
  pub read : read_script text ≡ Ok ran_lines
  pub replies : List ℕ
  pub bound : Bindings
  pub ran : Lines given (labelled old unbound) ran_lines replies files (labelled new bound)
  pub printed : Prints out.contents out.old out.new replies

-- A text is cut between two of its lines, or at one of its ends.
abbrev pub CutBetweenLines : (front rest : List ℕ) → Type 0
CutBetweenLines front rest = lines (front ++ rest) ≡ lines front ++ lines rest

-- A point between two lines of a script: the text before it with its lines, the region and the
-- labels after these lines, and the text that is left.
pub record Point : Type 0 where
  pub front : List ℕ
  pub lines : List Line
  pub at : Labelled
  pub rest : List ℕ

abbrev pub point : (front : List ℕ) → List Line → Labelled → (rest : List ℕ) → Point
point front lines at rest = record { front = front; lines = lines; at = at; rest = rest }

-- After this point comes one more line. Its call was done, but its reply line was not written to its
-- end.
pub record ReplyFails {W : Type 0} (given : Setting) (point : Point) (new : Region) (out : Output W) : Type 0 where
  pub next : List ℕ
  pub more : List ℕ
  pub parts : point.rest ≡ next ++ more
  pub cut : CutBetweenLines next more
  pub line : Line
  pub read : read_script (point.front ++ next) ≡ Ok (point.lines ++ line ∷ [])
  pub reply : Reply
  pub step : LineStep given point.at line reply new
  pub written : Writes out.contents out.old out.new (reply_line line reply) false

-- Why no more lines were run after this point of a script:
-- - The next line is the first faulty line of the script, and has this fault.
-- - A read failed, or the script is too long, and no allocation failed.
-- - An allocation failed.
-- - The reply line of the next line could not be written, or a flush failed.
abbrev pub StopsBy : {W : Type 0} → Setting → LiveFault → Point → Region → Output W → Type 0
StopsBy given (faults.Line fault) point new out = (read_script (point.front ++ point.rest) ≡ Err fault) × (fault.line ≡ length (lines point.front) + 1) × (new ≡ point.at.region) × IsUnused out
StopsBy given (faults.Input fault) point new out = (fault ≢ InputMemory) × IsOfReading fault × (new ≡ point.at.region) × IsUnused out
StopsBy given faults.Memory point new out = given.short × (new ≡ point.at.region) × IsUnused out
StopsBy given faults.Write point new out = ReplyFails given point new out ⊎ ((new ≡ point.at.region) × Flushes out.contents out.old out.new false)

-- The first lines of a script were run, and then the run ended by a fault. `front` is the text of
-- these lines, and `files` are the files that they export.
pub record RunStops {W : Type 0} (given : Setting) (script : List ℕ) (old new : Region) (out : Output W) (fault : LiveFault) : Type 0 where
  pub front : List ℕ
  pub rest : List ℕ
  pub parts : script ≡ front ++ rest
  pub cut : CutBetweenLines front rest
  pub files : List (List ℕ)
  pub mid : Region
  pub out_mid : Writing W
  pub ran : RunsText given front old mid (output out.contents out.old out_mid) files
  pub by : StopsBy given fault (point front ran.ran_lines (labelled mid ran.bound) rest) new (output out.contents out_mid out.new)

-- the same for the script that a reader has, if its bytes are known
abbrev pub ReadStops : {W : Type 0} → Setting → (known : Option (List ℕ)) → (old new : Region) → Output W → LiveFault → Type 0
ReadStops given known old new out fault = (script : List ℕ) × IfSome known (λ all. all ≡ script) × RunStops given script old new out fault
