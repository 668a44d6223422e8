-- What `run` prints and writes if its script is run while it is read. A definition that ends in a
-- `Bool` has it true if all was written and flushed, and false if a write or a flush failed. `short`
-- is the fact that an allocation failed.
use Rattle.std.specs.Prelude.{◌≡◌, ◌≢◌, ◌⊎◌, ℕ, Bool, true, false, List, Option, IfSome, Some}
use Rattle.heap_model.specs.Memory.{Memory}
use Rattle.heap_model.specs.Store.{Accepted}
use Rattle.palm_text.specs.Counted.{Flushes, Writing}
use Rattle.palm_text.specs.Output.{IsUnused, Output, PutsTo, output}
use Rattle.script_calls.specs.Lines.{Setting}
use Rattle.script_lines.specs.declared.fault.LineFault.{LineFault}
use Rattle.live_scripts.specs.Live.{ReadStops, RunsText}
use Rattle.live_scripts.specs.declared.fault.LiveFault.{LiveFault}
use Rattle.live_scripts.specs.declared.fault.LiveFault.TheVariants as faults
use Rattle.image_commands.specs.FaultLines.{PutsBadImage}
use Rattle.file_commands.specs.LineFaults.{PutsScriptRefused}
use Rattle.program_io.specs.declared.status.Status.{Status}
use Rattle.program_io.specs.declared.status.Status.TheVariants.{Done, Refused, BadWords, ReadFault, WriteFault, NoMemory}
use Rattle.palmheap_program.specs.Runs.{RunOutputs}
use Rattle.palmheap_program.specs.declared.live_command.LiveEnd.{LiveEnd}
use Rattle.palmheap_program.specs.declared.live_command.LiveEnd.TheVariants as ends

-- The text of a script that is read: the bytes that its reader has, if they are known, and the text
-- that was read of them.
pub record LiveText : Type 0 where
  pub known : Option (List ℕ)
  pub text : List ℕ

abbrev pub live_text : Option (List ℕ) → List ℕ → LiveText
live_text known text = record { known = known; text = text }

-- The image is accepted. The lines of the script were run on its region, and their replies were
-- printed and flushed. Then the new image was written.
pub record RunsLive {W V : Type 0} (given : Setting) (region : Memory) (script : LiveText) (outs : RunOutputs W V) (files : List (List ℕ)) (ok : Bool) : Type 0 where
  pub before : Accepted region.bytes
  pub whole : IfSome script.known (λ all. script.text ≡ all)
  pub region_after : Memory
  pub ran : RunsText given script.text region region_after outs.replies files
  pub flushed : outs.replies.new.flushed ≡ Some true
  pub accepted : Accepted region_after.bytes
  pub written : PutsTo outs.image region_after.bytes ok

-- The image is accepted. The first lines of the script were run, and then the run ended by a fault.
abbrev pub StopsLive : {V : Type 0} → Setting → Memory → (known : Option (List ℕ)) → Output V → LiveFault → Type 0
StopsLive given region known out fault = Accepted region.bytes × ((region_after : Memory) × ReadStops given known region region_after out fault)

-- The image is not accepted, and the line for its first fault was written. Or a line of the script
-- is faulty. Then the lines before it were run, and a line has the reason after their replies.
abbrev pub PutsLiveRefusal : {V : Type 0} → Setting → Memory → (known : Option (List ℕ)) → Output V → Bool → Type 0
PutsLiveRefusal {V} given region known out ok =
    ((Accepted region.bytes → ⊥) × PutsBadImage region.bytes out ok)
    ⊎ ((fault : LineFault) × (mid : Writing V) × StopsLive given region known (output out.contents out.old mid) (faults.Line fault) × PutsScriptRefused fault out.contents mid out.new ok)

-- A write or a flush failed, and nothing was written after it. There are three cases:
-- - It failed for the line with the reason of a refusal, and no image was written.
-- - It failed for the replies, and no image was written.
-- - It failed for the image, after all of the replies.
abbrev pub LiveBreaksOff : {W V : Type 0} → Setting → Memory → LiveText → RunOutputs W V → Type 0
LiveBreaksOff given region script outs =
    (PutsLiveRefusal given region script.known outs.replies false × IsUnused outs.image)
    ⊎ ((StopsLive given region script.known outs.replies faults.Write × IsUnused outs.image)
    ⊎ ((files : List (List ℕ)) × RunsLive given region script outs files false))

-- An allocation failed before the first line, or after some lines, whose replies were flushed unless
-- the flush failed. Or it failed for the line with the reason of a refusal.
abbrev pub LiveRunWantsMemory : {V : Type 0} → Setting → Memory → (known : Option (List ℕ)) → Output V → Type 0
LiveRunWantsMemory {V} given region known out =
    IsUnused out
    ⊎ (((mid : Writing V) × (ok : Bool) × StopsLive given region known (output out.contents out.old mid) faults.Memory × Flushes out.contents mid out.new ok)
    ⊎ ((mid : Writing V) × (ok : Bool) × (fault : LineFault) × StopsLive given region known (output out.contents out.old mid) (faults.Line fault) × Flushes out.contents mid out.new ok))

-- The line for a faulty line was written, or the write failed. Or an allocation failed, and the
-- replies were flushed unless the flush failed.
abbrev pub EndsAtLine : {V : Type 0} → Type 0 → Output V → LineFault → Status → Type 0
EndsAtLine short out fault status =
    ((status ≡ Refused) × PutsScriptRefused fault out.contents out.old out.new true)
    ⊎ (((status ≡ WriteFault) × PutsScriptRefused fault out.contents out.old out.new false)
    ⊎ ((status ≡ NoMemory) × short × (ok : Bool) × Flushes out.contents out.old out.new ok))

-- How a run ends after a fault: a line with the reason, a flush of the replies if an allocation
-- failed, or nothing more.
abbrev pub EndsEarlyLive : {V : Type 0} → Type 0 → Output V → LiveFault → LiveEnd → Type 0
EndsEarlyLive short out (faults.Line fault) (ends.Ended status) = EndsAtLine short out fault status
EndsEarlyLive short out (faults.Line fault) (ends.Unread other) = ⊥
EndsEarlyLive short out (faults.Input fault) (ends.Ended status) = ⊥
EndsEarlyLive short out (faults.Input fault) (ends.Unread other) = (other ≡ fault) × IsUnused out
EndsEarlyLive short out faults.Memory (ends.Ended status) = (status ≡ NoMemory) × (ok : Bool) × Flushes out.contents out.old out.new ok
EndsEarlyLive short out faults.Memory (ends.Unread other) = ⊥
EndsEarlyLive short out faults.Write (ends.Ended status) = (status ≡ WriteFault) × IsUnused out
EndsEarlyLive short out faults.Write (ends.Unread other) = ⊥

-- what such a run wrote, by its status
pub record EndsLiveBy {W V : Type 0} (given : Setting) (region : Memory) (script : LiveText) (outs : RunOutputs W V) (status : Status) : Type 0 where
  pub refused : status ≡ Refused → PutsLiveRefusal given region script.known outs.replies true
  pub write_fault : status ≡ WriteFault → LiveBreaksOff given region script outs
  pub no_memory : status ≡ NoMemory → given.short × LiveRunWantsMemory given region script.known outs.replies
  pub no_image : status ≢ WriteFault → IsUnused outs.image
  pub not_done : status ≢ Done
  pub good_words : status ≢ BadWords
  pub reads_all : status ≢ ReadFault

-- the same for a run whose script could perhaps not be read to its end
abbrev pub EndsLive : {W V : Type 0} → Setting → Memory → LiveText → RunOutputs W V → LiveEnd → Type 0
EndsLive given region script outs (ends.Ended status) = EndsLiveBy given region script outs status
EndsLive given region script outs (ends.Unread fault) = StopsLive given region script.known outs.replies (faults.Input fault) × IsUnused outs.image
