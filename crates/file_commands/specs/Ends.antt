-- What the commands write, by their status. A definition that ends in a `Bool` has it true if all
-- was written and flushed, and false if a write or a flush failed.
use Rattle.std.specs.Prelude.{◌≡◌, ◌≢◌, ◌⊎◌, ◌++◌, ℕ, Bool, true, false, List, length, Option, None, codes, decimal, Result, Err, IfOk, IfErr}
use Rattle.heap_model.specs.Files.{HasNoFault, IsFirstFault}
use Rattle.heap_model.specs.declared.file_fault.FileFault.{FileFault}
use Rattle.palm_text.specs.Counted.{Writing}
use Rattle.palm_text.specs.Output.{IsUnused, Output, Puts, PutsTo}
use Rattle.canonical_file.specs.Canonical.{IsCanonical, IsCanonicalFault}
use Rattle.canonical_file.specs.declared.canonical.CanonicalFault.{CanonicalFault}
use Rattle.canonical_file.specs.declared.canonical.CanonicalFault.TheVariants.{OutOfMemory, Write}
use Rattle.canonical_file.specs.declared.changes.Changes.{Changes}
use Rattle.canonical_file.specs.Changes.{AreChanges, changes_line}
use Rattle.file_listing.specs.declared.rows.Row.{Row}
use Rattle.file_listing.specs.Lines.{heading, listing_line}
use Rattle.file_listing.specs.Listing.{IsListingBy, fault_row}
use Rattle.file_commands.specs.declared.faults.Rewritten.{Rewritten}
use Rattle.program_io.specs.declared.status.Status.{Status}
use Rattle.program_io.specs.declared.status.Status.TheVariants.{Done, Refused, BadWords, ReadFault, WriteFault, NoMemory}

-- a text of this kind, for a file without fault
abbrev pub PutsText : {V : Type 0} → (List ℕ → Type 0) → List ℕ → (V → Option (List ℕ)) → Writing V → Writing V → Bool → Type 0
PutsText IsText file contents old new ok = HasNoFault file × ((text : List ℕ) × IsText text × Puts contents old new text ok)

-- the listing of a file without fault, with this text for each row
abbrev pub PutsListing : {V : Type 0} → (Row → List ℕ) → List ℕ → (V → Option (List ℕ)) → Writing V → Writing V → Bool → Type 0
PutsListing row_text file contents old new ok = PutsText (IsListingBy row_text file) file contents old new ok

-- the row of the first fault of a file
abbrev pub PutsFaultRow : {V : Type 0} → (Row → List ℕ) → List ℕ → (V → Option (List ℕ)) → Writing V → Writing V → Bool → Type 0
PutsFaultRow row_text file contents old new ok = (fault : FileFault) × IsFirstFault file fault × Puts contents old new (row_text (fault_row file fault)) ok

-- its lines
abbrev pub PutsFault : {V : Type 0} → List ℕ → (V → Option (List ℕ)) → Writing V → Writing V → Bool → Type 0
PutsFault file contents old new ok = PutsFaultRow (listing_line None) file contents old new ok

-- what a command wrote for a file: a text of this kind for a file without fault, and the row of the first fault for another
pub record EndsText {V : Type 0} (IsText : List ℕ → Type 0) (row_text : Row → List ℕ) (file : List ℕ) (contents : V → Option (List ℕ)) (old new : Writing V) (status : Status) : Type 0 where
  pub done : status ≡ Done → PutsText IsText file contents old new true
  pub refused : status ≡ Refused → PutsFaultRow row_text file contents old new true
  pub no_memory : status ≡ NoMemory → HasNoFault file × (new ≡ old)
  pub write_fault : status ≡ WriteFault → PutsText IsText file contents old new false ⊎ PutsFaultRow row_text file contents old new false
  pub good_words : status ≢ BadWords
  pub reads_nothing : status ≢ ReadFault

-- what `list` wrote for a file: `listing_line` has its text for each row, and `listing_json` of json_documents that of `list --json`
abbrev pub EndsList : {V : Type 0} → (Row → List ℕ) → List ℕ → (V → Option (List ℕ)) → Writing V → Writing V → Status → Type 0
EndsList row_text file contents old new status = EndsText (IsListingBy row_text file) row_text file contents old new status

-- the line of the changes of a file, after the line with its path if there is one
abbrev pub IsChangesText : (path : Option (List ℕ)) → (file text : List ℕ) → Type 0
IsChangesText path file text = (changes : Changes) × AreChanges file changes × (text ≡ heading path ++ changes_line changes)

-- what `canonical --check` wrote for a file
abbrev pub EndsChanges : {V : Type 0} → (path : Option (List ℕ)) → List ℕ → (V → Option (List ℕ)) → Writing V → Writing V → Status → Type 0
EndsChanges path file contents old new status = EndsText (IsChangesText path file) (listing_line path) file contents old new status

-- the line with the number of bytes that were written
unfoldable pub written_line : ℕ → List ℕ
written_line count = codes "ok " ++ (decimal count ++ codes "\n")

-- that line, and the line of the changes
unfoldable pub rewritten_lines : Rewritten → List ℕ
rewritten_lines rewritten = written_line rewritten.count ++ changes_line rewritten.changes

-- the canonical form of a file, and then its lines
pub record PutsCanonical {W V : Type 0} (file : List ℕ) (file_out : Output W) (out : Output V) (ok : Bool) : Type 0 where
  pub bytes : List ℕ
  pub canonical : IsCanonical file bytes
  pub written : PutsTo file_out bytes true
  pub changes : Changes
  pub changes_are : AreChanges file changes
  pub told : PutsTo out (written_line (length bytes) ++ changes_line changes) ok

-- the whole canonical form, with its size and its changes
pub record WroteWhole {W : Type 0} (file : List ℕ) (file_out : Output W) (rewritten : Rewritten) : Type 0 where
  pub bytes : List ℕ
  pub canonical : IsCanonical file bytes
  pub count : rewritten.count ≡ length bytes
  pub changes : AreChanges file rewritten.changes
  pub written : PutsTo file_out bytes true

-- the canonical form without the lines: a write of it failed, or the flush after it
abbrev pub PutsPart : {W : Type 0} → List ℕ → Output W → Type 0
PutsPart file file_out = (bytes : List ℕ) × IsCanonical file bytes × PutsTo file_out bytes false

-- the whole canonical form was written and flushed, or why not
pub record RewritesWhole {W : Type 0} (file : List ℕ) (file_out : Output W) (is_short : Type 0) (result : Result Rewritten CanonicalFault) : Type 0 where
  pub done : IfOk result (WroteWhole file file_out)
  pub why : IfErr result (IsCanonicalFault file)
  pub untouched : IfErr result (λ fault. fault ≢ Write → IsUnused file_out)
  pub write : result ≡ Err Write → PutsPart file file_out
  pub short : result ≡ Err OutOfMemory → is_short

-- A write or a flush failed in `canonical`, and nothing was written after it. There are three
-- cases:
-- - It failed for the file, and nothing was printed.
-- - It failed for the lines, after the whole file.
-- - The file has a fault, and it failed for the lines of the fault.
abbrev pub CanonicalBreaksOff : {W V : Type 0} → List ℕ → Output W → Output V → Type 0
CanonicalBreaksOff file file_out out =
    (PutsPart file file_out × IsUnused out)
    ⊎ PutsCanonical file file_out out false
    ⊎ (PutsFault file out.contents out.old out.new false × IsUnused file_out)

-- what `canonical` wrote for a file
pub record EndsCanonical {W V : Type 0} (file : List ℕ) (file_out : Output W) (out : Output V) (status : Status) : Type 0 where
  pub done : status ≡ Done → PutsCanonical file file_out out true
  pub refused : status ≡ Refused → PutsFault file out.contents out.old out.new true × IsUnused file_out
  pub no_memory : status ≡ NoMemory → HasNoFault file × IsUnused file_out × IsUnused out
  pub write_fault : status ≡ WriteFault → CanonicalBreaksOff file file_out out
  pub good_words : status ≢ BadWords
  pub reads_nothing : status ≢ ReadFault
