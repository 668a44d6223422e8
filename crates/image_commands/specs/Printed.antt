-- The end of a command that prints something of an image, or writes a file that it makes of one.
use Rattle.std.specs.Prelude.{◌≡◌, ◌≢◌, ◌⊎◌, ℕ, Bool, true, false, List, codes}
use Rattle.heap_model.specs.Store.{Accepted}
use Rattle.palm_text.specs.Output.{IsUnused, Output, PutsTo}
use Rattle.program_io.specs.declared.status.Status.{Status}
use Rattle.program_io.specs.declared.status.Status.TheVariants.{Done, Refused, BadWords, ReadFault, WriteFault, NoMemory}

-- The output of the command for an image, by the status with which it ends. `puts` is what it prints
-- of an accepted image, and `puts_fault` of a refused one, each by whether all writes succeeded.
pub record EndsPrinted {V : Type 0} (image : List ℕ) (puts puts_fault : Bool → Type 0) (out : Output V) (status : Status) : Type 0 where
  pub done : status ≡ Done → puts true
  pub accepted : status ≡ Done → Accepted image
  pub refused : status ≡ Refused → Accepted image → ⊥
  pub fault : status ≡ Refused → puts_fault true
  pub no_memory : status ≡ NoMemory → IsUnused out
  pub write_fault : status ≡ WriteFault → (Accepted image × puts false) ⊎ ((Accepted image → ⊥) × puts_fault false)
  pub good_words : status ≢ BadWords
  pub reads_nothing : status ≢ ReadFault

-- A write or a flush failed in a command that writes a file, and nothing was written after it. There
-- are three cases. It failed for the file, and nothing was printed. Or it failed for `ok`, after the
-- whole file. Or the image is refused, it failed for the line with the reason, and no file was
-- written.
abbrev pub WritingBreaksOff : {W V : Type 0} → List ℕ → (puts puts_refusal : Bool → Type 0) → Output W → Output V → Type 0
WritingBreaksOff image puts puts_refusal file_out out =
    (Accepted image × puts false × IsUnused out)
    ⊎ (Accepted image × puts true × PutsTo out (codes "ok\n") false)
    ⊎ (puts_refusal false × IsUnused file_out)

-- The outputs of the command for an image, by the status with which it ends. `puts` is the file that
-- it writes of an accepted image, and `puts_refusal` what it prints of a refused one, each by whether
-- all writes succeeded.
pub record EndsWritten {W V : Type 0} (image : List ℕ) (puts puts_refusal : Bool → Type 0) (file_out : Output W) (out : Output V) (status : Status) : Type 0 where
  pub accepted : status ≡ Done → Accepted image
  pub written : status ≡ Done → puts true
  pub ok : status ≡ Done → PutsTo out (codes "ok\n") true
  pub refused : status ≡ Refused → puts_refusal true
  pub no_file : status ≡ Refused → IsUnused file_out
  pub no_memory : status ≡ NoMemory → IsUnused file_out × IsUnused out
  pub write_fault : status ≡ WriteFault → WritingBreaksOff image puts puts_refusal file_out out
  pub good_words : status ≢ BadWords
  pub reads_nothing : status ≢ ReadFault
