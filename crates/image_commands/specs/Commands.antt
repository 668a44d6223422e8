-- The output of `new`. If the last argument of a definition is a `Bool`, it is whether
-- all writes succeeded.
use Rattle.std.specs.Prelude.{◌≡◌, ◌≢◌, ◌⊎◌, ℕ, Bool, true, false, List, codes}
use Rattle.chunk_format.specs.Blank.{IsBlank}
use Rattle.image_commands.specs.FaultLines.{PutsNoImage}
use Rattle.palm_text.specs.Output.{IsUnused, Output, PutsTo}
use Rattle.program_io.specs.declared.status.Status.{Status}
use Rattle.program_io.specs.declared.status.Status.TheVariants.{Done, Refused, BadWords, ReadFault, WriteFault, NoMemory}

module _ {W : Type 0} where
  -- the output is a blank image of this size and slot count
  abbrev pub PutsBlank : (size slots : ℕ) → Output W → Bool → Type 0
  PutsBlank size slots out ok = (image : List ℕ) × IsBlank size slots image × PutsTo out image ok

-- A write or a flush failed in `new`, and nothing was written after it. There are three cases. It
-- failed for the image, and nothing was printed. Or it failed for `ok`, after the whole image. Or
-- no image may have this size and slot count, it failed for the line with the fault, and no image
-- was written.
abbrev pub NewBreaksOff : {W V : Type 0} → (size slots : ℕ) → Output W → Output V → Type 0
NewBreaksOff size slots image_out out =
    (PutsBlank size slots image_out false × IsUnused out)
    ⊎ (PutsBlank size slots image_out true × PutsTo out (codes "ok\n") false)
    ⊎ (PutsNoImage size slots out false × IsUnused image_out)

-- the output of `new`, by the status with which it ends
pub record EndsNew {W V : Type 0} (size slots : ℕ) (image_out : Output W) (out : Output V) (status : Status) : Type 0 where
  pub image : status ≡ Done → PutsBlank size slots image_out true
  pub ok : status ≡ Done → PutsTo out (codes "ok\n") true
  pub bad_words : status ≡ BadWords → PutsNoImage size slots out true
  pub no_image : status ≡ BadWords → IsUnused image_out
  pub no_memory : status ≡ NoMemory → IsUnused image_out × IsUnused out
  pub write_fault : status ≡ WriteFault → NewBreaksOff size slots image_out out
  pub not_refused : status ≢ Refused
  pub reads_nothing : status ≢ ReadFault
