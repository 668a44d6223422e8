-- What lasts from line to line of a script that is run while it is read.
use Rattle.std.specs.Prelude.{◌≡◌, ◌≢◌, ◌⊎◌, ◌+◌, ◌++◌, ℕ, List, Some, None, Ok, Err, true, false, length}
use Rattle.std.specs.Str.Lines.{lines}
use Rattle.heap_model.specs.Memory.{Memory as Region}
use Rattle.heap_model.specs.declared.call.Reply.{Reply}
use Rattle.palm_text.specs.Counted.{Writing, Writes}
use Rattle.palm_text.specs.Output.{IsUnused, Output, output}
use Rattle.script_lines.specs.Reading.{line_read, read_line, read_lines, read_script}
use Rattle.script_lines.specs.Views.{numberings}
use Rattle.script_lines.specs.declared.line.Line.{Line}
use Rattle.script_calls.specs.Lines.{Bindings, Labelled, LineStep, Lines, Setting, bound_after, exported, labelled, reply_line, tables, unbound}
use Rattle.live_scripts.specs.declared.fault.LiveFault.{LiveFault}
use Rattle.live_scripts.specs.declared.fault.LiveFault.TheVariants as faults
use Rattle.live_scripts.specs.declared.session.Session.{Session}
use Rattle.live_scripts.specs.Live.{CutBetweenLines, Prints, RunStops, RunsText}
use Rattle.program_io.specs.Status.{IsOfReading}
use Rattle.program_io.specs.declared.input.InputFault.{InputFault}
use Rattle.program_io.specs.declared.input.InputFault.TheVariants.{Memory}

-- what the labels stand for
abbrev pub bound_in : Session → Bindings
bound_in session = tables session.names.items session.databases.items

-- what lasts from line to line: the session, and the region
pub record LiveState : Type 0 where
  pub session : Session
  pub region : Region

abbrev pub live_state : Session → Region → LiveState
live_state session region = record { session = session; region = region }

-- the region, and what the labels stand for
abbrev pub labelled_in : LiveState → Labelled
labelled_in state = labelled state.region (bound_in state.session)

-- The call of a line was done, and its reply line was written.
pub record Replies {W : Type 0} (given : Setting) (line : Line) (old : Labelled) (new : Region) (out : Output W) : Type 0 where
  pub reply : Reply
  pub step : LineStep given old line reply new
  pub written : Writes out.contents out.old out.new (reply_line line reply) true

-- The same, and the session has what the line binds and exports, after these bindings and files.
pub record RunsLine {W : Type 0} (given : Setting) (line : Line) (old : Labelled) (files : List (List ℕ)) (new : LiveState) (out : Output W) : Type 0 where
  pub replies : Replies given line old new.region out
  pub binds : bound_in new.session ≡ bound_after old.bound line replies.reply
  pub exports : new.session.files.items ≡ files ++ exported line replies.reply

-- a line whose reply line was not written to its end
abbrev pub FailsLine : {W : Type 0} → Setting → Line → (old : Labelled) → (new : Region) → Output W → Type 0
FailsLine given line old new out = (reply : Reply) × LineStep given old line reply new × Writes out.contents out.old out.new (reply_line line reply) false

-- The text of one line was read, and its line was run. Or the line is passed over, and all stays.
abbrev pub ReadsLine : {W : Type 0} → Setting → (text : List ℕ) → (old new : LiveState) → Output W → Type 0
ReadsLine given text old new out =
    ((read_line (numberings old.session.labels) text ≡ Ok (line_read None (numberings new.session.labels)))
    × (bound_in new.session ≡ bound_in old.session) × (new.session.files.items ≡ old.session.files.items) × (new.region ≡ old.region) × IsUnused out)
    ⊎ ((line : Line) × (read_line (numberings old.session.labels) text ≡ Ok (line_read (Some line) (numberings new.session.labels)))
    × RunsLine given line (labelled_in old) old.session.files.items new out)

-- why a line was not read or run to its end
abbrev pub LineStops : {W : Type 0} → Setting → LiveFault → (text : List ℕ) → (old new : LiveState) → Output W → Type 0
LineStops given (faults.Line fault) text old new out = (read_line (numberings old.session.labels) text ≡ Err fault.fault) × (fault.line ≡ old.session.count + 1) × (new.region ≡ old.region) × IsUnused out
LineStops given (faults.Input fault) text old new out = ⊥
LineStops given faults.Memory text old new out =
    given.short × (((new.region ≡ old.region) × IsUnused out)
    ⊎ ((line : Line) × (read_line (numberings old.session.labels) text ≡ Ok (line_read (Some line) (numberings new.session.labels))) × Replies given line (labelled_in old) new.region out))
LineStops given faults.Write text old new out =
    (line : Line) × (read_line (numberings old.session.labels) text ≡ Ok (line_read (Some line) (numberings new.session.labels))) × FailsLine given line (labelled_in old) new.region out

-- The lines of the text `front` were run from a first region, and the session is what lasts of
-- them. Whatever text comes next is read as the lines after those of `front`.
pub record HasRun {W : Type 0} (given : Setting) (front : List ℕ) (first : Region) (now : LiveState) (out : Output W) : Type 0 where
  pub whole : (rest : List ℕ) → CutBetweenLines front rest
  pub counted : now.session.count ≡ length (lines front)
  pub ran_lines : List Line
  pub goes_on : (rest : List ℕ) → read_script (front ++ rest) ≡ read_lines (now.session.count + 1) (numberings now.session.labels) ran_lines (lines rest)
  pub replies : List ℕ
  pub ran : Lines given (labelled first unbound) ran_lines replies now.session.files.items (labelled_in now)
  pub printed : Prints out.contents out.old out.new replies

-- the lines of a text were run, after any lines that were run before
abbrev pub RunsOn : {W : Type 0} → Setting → (text : List ℕ) → (old new : LiveState) → Output W → Type 0
RunsOn {W} given text old new out = (front : List ℕ) (first : Region) (out_first : Writing W)
    → HasRun given front first old (output out.contents out_first out.old)
    → HasRun given (front ++ text) first new (output out.contents out_first out.new)

-- the same, until a fault ended the run, whatever text comes after this one
abbrev pub StopsOn : {W : Type 0} → Setting → LiveFault → (text : List ℕ) → (old : LiveState) → (new : Region) → Output W → Type 0
StopsOn {W} given fault text old new out = (front : List ℕ) (first : Region) (out_first : Writing W)
    → HasRun given front first old (output out.contents out_first out.old)
    → (more : List ℕ) → RunStops given (front ++ (text ++ more)) first new (output out.contents out_first out.new) fault

-- The same for the last line of a script, or no text, after which nothing is read.
abbrev pub EndsOn : {W : Type 0} → Setting → (text : List ℕ) → (old new : LiveState) → Output W → Type 0
EndsOn {W} given text old new out = (front : List ℕ) (first : Region) (out_first : Writing W)
    → HasRun given front first old (output out.contents out_first out.old)
    → RunsText given (front ++ text) first new.region (output out.contents out_first out.new) new.session.files.items

-- the same for such a text, if a fault ended the run
abbrev pub StopsAt : {W : Type 0} → Setting → LiveFault → (text : List ℕ) → (old : LiveState) → (new : Region) → Output W → Type 0
StopsAt {W} given fault text old new out = (front : List ℕ) (first : Region) (out_first : Writing W)
    → HasRun given front first old (output out.contents out_first out.old)
    → RunStops given (front ++ text) first new (output out.contents out_first out.new) fault

-- the reason for which a reader can't be read, as the end of a run
abbrev pub IsReadFault : InputFault → LiveFault → Type 0
IsReadFault fault (faults.Line other) = ⊥
IsReadFault fault (faults.Input other) = (other ≡ fault) × IsOfReading fault × (fault ≢ Memory)
IsReadFault fault faults.Memory = fault ≡ Memory
IsReadFault fault faults.Write = ⊥
