-- What `canonical --keep` writes: the new file to one output, and lines to another one. A definition
-- that ends in a `Bool` has it true if all was written and flushed, and false if a write or a flush
-- failed.
use Rattle.std.specs.Prelude.{◌≡◌, ◌≢◌, ◌⊎◌, ◌++◌, ℕ, Bool, true, false, List, length, Option, codes}
use Rattle.heap_model.specs.Files.{HasNoFault}
use Rattle.palm_text.specs.Counted.{Writing}
use Rattle.palm_text.specs.Output.{IsUnused, Output, PutsTo}
use Rattle.canonical_file.specs.declared.changes.Changes.{Changes}
use Rattle.canonical_file.specs.Changes.{changes_line}
use Rattle.file_listing.specs.Lines.{heading, listing_line}
use Rattle.file_parts.specs.Keeping.{AreChangesLeft, KeepsParts}
use Rattle.file_parts.specs.Kept.{IsKeepFault}
use Rattle.file_parts.specs.declared.exact_writing.PlaceFault.TheVariants.{TooLarge}
use Rattle.file_parts.specs.declared.keep.Keep.{Keep}
use Rattle.program_io.specs.declared.status.Status.{Status}
use Rattle.program_io.specs.declared.status.Status.TheVariants.{Done, Refused, BadWords, ReadFault, WriteFault, NoMemory}
use Rattle.file_commands.specs.Ends.{EndsText, PutsFault, written_line}

-- the line of the changes of a file that are left, after the line with its path if there is one
abbrev pub IsLeftText : Keep → (path : Option (List ℕ)) → (file text : List ℕ) → Type 0
IsLeftText keep path file text = (left : Changes) × AreChangesLeft keep file left × (text ≡ heading path ++ changes_line left)

-- what `canonical --check --keep` wrote for a file
abbrev pub EndsLeft : {V : Type 0} → Keep → (path : Option (List ℕ)) → List ℕ → (V → Option (List ℕ)) → Writing V → Writing V → Status → Type 0
EndsLeft keep path file contents old new status = EndsText (IsLeftText keep path file) (listing_line path) file contents old new status

-- the file that keeps these things, and then its lines
pub record PutsKept {W V : Type 0} (keep : Keep) (file : List ℕ) (file_out : Output W) (out : Output V) (ok : Bool) : Type 0 where
  pub bytes : List ℕ
  pub keeps : KeepsParts keep file bytes
  pub written : PutsTo file_out bytes true
  pub left : Changes
  pub are : AreChangesLeft keep file left
  pub told : PutsTo out (written_line (length bytes) ++ changes_line left) ok

-- the file without the lines: a write of it failed, or the flush after it
abbrev pub PutsKeptPart : {W : Type 0} → Keep → List ℕ → Output W → Type 0
PutsKeptPart keep file file_out = (bytes : List ℕ) × KeepsParts keep file bytes × PutsTo file_out bytes false

-- the output is the line for a file that would be too large
abbrev pub PutsKeptTooLarge : {V : Type 0} → Keep → List ℕ → Output V → Bool → Type 0
PutsKeptTooLarge keep file out ok = IsKeepFault keep file TooLarge × PutsTo out (codes "bad TooLarge\n") ok

-- the output is the lines for a file with a fault, or for one that would be too large
abbrev pub PutsNotKept : {V : Type 0} → Keep → List ℕ → Output V → Bool → Type 0
PutsNotKept keep file out ok = PutsFault file out.contents out.old out.new ok ⊎ PutsKeptTooLarge keep file out ok

-- A write or a flush failed in `canonical --keep`, and nothing was written after it. There are three
-- cases:
-- - It failed for the file, and nothing was printed.
-- - It failed for the lines, after the whole file.
-- - No file is written, and it failed for the lines about that.
abbrev pub KeptBreaksOff : {W V : Type 0} → Keep → List ℕ → Output W → Output V → Type 0
KeptBreaksOff keep file file_out out =
    (PutsKeptPart keep file file_out × IsUnused out)
    ⊎ PutsKept keep file file_out out false
    ⊎ (PutsNotKept keep file out false × IsUnused file_out)

-- what `canonical --keep` wrote for a file
pub record EndsKept {W V : Type 0} (keep : Keep) (file : List ℕ) (file_out : Output W) (out : Output V) (status : Status) : Type 0 where
  pub done : status ≡ Done → PutsKept keep file file_out out true
  pub refused : status ≡ Refused → PutsNotKept keep file out true × IsUnused file_out
  pub no_memory : status ≡ NoMemory → HasNoFault file × IsUnused file_out × IsUnused out
  pub write_fault : status ≡ WriteFault → KeptBreaksOff keep file file_out out
  pub good_words : status ≢ BadWords
  pub reads_nothing : status ≢ ReadFault
