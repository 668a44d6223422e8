-- What `run` prints and writes. A definition that ends in a `Bool` has it true if all was written
-- and flushed, and false if a write or a flush failed. A line was refused as out of memory only if
-- the fact `short` of its setting holds.
use Rattle.std.specs.Prelude.{[], ◌≡◌, ◌≢◌, ◌⊎◌, ℕ, Bool, true, false, List, Ok, Err}
use Rattle.heap_model.specs.Memory.{Memory}
use Rattle.palm_text.specs.Counted.{Flushes, Writing}
use Rattle.heap_model.specs.Store.{Accepted}
use Rattle.script_lines.specs.Reading.{read_script}
use Rattle.script_lines.specs.declared.fault.LineFault.{LineFault}
use Rattle.script_lines.specs.declared.line.Line.{Line}
use Rattle.script_calls.specs.Lines.{BreaksOffShort, RunsThroughShort, Setting, setting}
use Rattle.image_commands.specs.FaultLines.{PutsBadImage}
use Rattle.file_commands.specs.LineFaults.{PutsScriptRefused}
use Rattle.palm_text.specs.Output.{IsUnused, Output, PutsTo, output}
use Rattle.program_io.specs.declared.status.Status.{Status}
use Rattle.program_io.specs.declared.status.Status.TheVariants.{Done, Refused, BadWords, ReadFault, WriteFault, NoMemory}

-- the outputs of a run: one for the replies, and one for the new image
pub record RunOutputs (W V : Type 0) : Type 0 where
  pub replies : Output V
  pub image : Output W

abbrev pub run_outputs : {W V : Type 0} → Output V → Output W → RunOutputs W V
run_outputs replies image = record { replies = replies; image = image }

-- the script is refused, and a line has the reason
abbrev pub PutsScriptFault : {V : Type 0} → List ℕ → Output V → Bool → Type 0
PutsScriptFault script out ok = (fault : LineFault) × (read_script script ≡ Err fault) × PutsScriptRefused fault out.contents out.old out.new ok

-- The image is not accepted, and the line for its first fault was written. Or it is accepted,
-- but the script is refused, and a line has the reason.
abbrev pub PutsRefusal : {V : Type 0} → (image script : List ℕ) → Output V → Bool → Type 0
PutsRefusal image script out ok =
    ((Accepted image → ⊥) × PutsBadImage image out ok)
    ⊎ (Accepted image × PutsScriptFault script out ok)

-- The lines of a script were run, all of their text was written, and no write failed. Then the
-- writer was flushed once, without a fault. These are the files that the lines export.
pub record RunsAndFlushes {V : Type 0} (given : Setting) (lines : List Line) (region region_after : Memory) (out : Output V) (files : List (List ℕ)) : Type 0 where
  pub between : Writing V
  pub ran : RunsThroughShort given lines region region_after (output out.contents out.old between) files
  pub flushes : Flushes out.contents between out.new true

-- The same, but the flush failed.
pub record FlushFails {V : Type 0} (given : Setting) (lines : List Line) (region region_after : Memory) (out : Output V) : Type 0 where
  pub between : Writing V
  pub files : List (List ℕ)
  pub ran : RunsThroughShort given lines region region_after (output out.contents out.old between) files
  pub flushes : Flushes out.contents between out.new false

-- A write failed in the reply line of a line of the script, which leaves this region. Or the lines
-- were run, all of their text was written and no write failed, but the flush after it did.
abbrev pub PrintingFails : {V : Type 0} → Setting → List Line → (region region_after : Memory) → Output V → Type 0
PrintingFails given lines region region_after out =
    BreaksOffShort given lines region region_after out
    ⊎ FlushFails given lines region region_after out

-- The lines of a script were run on a region, and their text was printed and flushed. Then the new
-- image was written.
pub record RunsAndWrites {W V : Type 0} (given : Setting) (lines : List Line) (region : Memory) (outs : RunOutputs W V) (files : List (List ℕ)) (ok : Bool) : Type 0 where
  pub region_after : Memory
  pub prints : RunsAndFlushes given lines region region_after outs.replies files
  pub accepted : Accepted region_after.bytes
  pub written : PutsTo outs.image region_after.bytes ok

-- The lines of a script were run on a region, and a write or a flush failed. Nothing was written
-- after it. There are two cases:
-- - It failed for the text of the lines, and no image was written.
-- - It failed for the image, after all of the text.
pub record EndsEarly {W V : Type 0} (given : Setting) (lines : List Line) (region : Memory) (outs : RunOutputs W V) : Type 0 where
  pub failed : ((region_after : Memory) × PrintingFails given lines region region_after outs.replies × IsUnused outs.image)
      ⊎ ((files : List (List ℕ)) × RunsAndWrites given lines region outs files false)

-- These are the lines of the script, and a region with the bytes of an accepted image, of which
-- nothing is lent.
pub record ReadsAs (image script : List ℕ) (lines : List Line) (region : Memory) : Type 0 where
  pub image_is : region.bytes ≡ image
  pub whole : region.lents ≡ []
  pub before : Accepted image
  pub read : read_script script ≡ Ok lines

-- The script was run on a region with the bytes of an accepted image, and its text was printed and
-- flushed. Then the new image was written. These are the files that the script exports.
abbrev pub RunsScriptShort : {W V : Type 0} → Setting → (image script : List ℕ) → RunOutputs W V → (files : List (List ℕ)) → Bool → Type 0
RunsScriptShort given image script outs files ok =
    (lines : List Line) × (region : Memory) × ReadsAs image script lines region
    × RunsAndWrites given lines region outs files ok

-- A write or a flush failed in `run`, and nothing was written after it. There are two cases:
-- - The image or the script is refused, it failed for the line with the reason, and no image was
--   written.
-- - It failed for the text of the script's lines, or for the image.
abbrev pub RunBreaksOffShort : {W V : Type 0} → Setting → (image script : List ℕ) → RunOutputs W V → Type 0
RunBreaksOffShort given image script outs =
    (PutsRefusal image script outs.replies false × IsUnused outs.image)
    ⊎ ((lines : List Line) × (region : Memory) × ReadsAs image script lines region
    × EndsEarly given lines region outs)

-- the same, if nothing is known of memory
abbrev pub RunsScript : {W V : Type 0} → (image script : List ℕ) → (inputs : List (List ℕ)) → RunOutputs W V → (files : List (List ℕ)) → Bool → Type 0
RunsScript image script inputs outs files ok = RunsScriptShort (setting (Unit {0}) inputs) image script outs files ok

abbrev pub RunBreaksOff : {W V : Type 0} → (image script : List ℕ) → (inputs : List (List ℕ)) → RunOutputs W V → Type 0
RunBreaksOff image script inputs outs = RunBreaksOffShort (setting (Unit {0}) inputs) image script outs

-- what `run` wrote, by its status, and the files that the script exports, if it was run
pub record EndsRun {W V : Type 0} (image script : List ℕ) (inputs : List (List ℕ)) (outs : RunOutputs W V) (files : List (List ℕ)) (status : Status) : Type 0 where
  pub done : status ≡ Done → RunsScript image script inputs outs files true
  pub refused : status ≡ Refused → PutsRefusal image script outs.replies true
  pub no_image : status ≡ Refused → IsUnused outs.image
  pub no_memory : status ≡ NoMemory → IsUnused outs.image × IsUnused outs.replies
  pub write_fault : status ≡ WriteFault → RunBreaksOff image script inputs outs
  pub good_words : status ≢ BadWords
  pub reads_nothing : status ≢ ReadFault
