-- What `list`, `list --json` and `canonical --check` print for a file, and for several files one after
-- another, with the status.
use Rattle.std.specs.Prelude.{◌≡◌, ◌≢◌, ◌⊎◌, ◌<◌, ℕ, Bool, true, false, if◌then◌else◌, List, [], ◌∷◌, take, Option, Some, None, Result, Ok, Err}
use Rattle.std.specs.Io.KnownBytes.{Appends}
use Rattle.std.specs.List.{AllZip, flat_map}
use Rattle.heap_model.specs.Files.{HasNoFault, IsFirstFault}
use Rattle.heap_model.specs.declared.file_fault.FileFault.{FileFault}
use Rattle.palm_text.specs.Counted.{AppendsFront}
use Rattle.palm_text.specs.Output.{Output}
use Rattle.file_listing.specs.declared.rows.Row.{Row}
use Rattle.file_listing.specs.Lines.{listing_line}
use Rattle.file_listing.specs.Listing.{IsListingBy, fault_row}
use Rattle.json_documents.specs.RowTexts.{listing_json}
use Rattle.file_commands.specs.declared.reports.Report.{Report}
use Rattle.file_commands.specs.declared.reports.Report.TheVariants.{Listing, Document, Changes, Left}
use Rattle.file_commands.specs.Ends.{EndsText, IsChangesText}
use Rattle.file_commands.specs.Keeps.{IsLeftText}
use Rattle.program_io.specs.Status.{worse}
use Rattle.program_io.specs.declared.status.Status.{Status}
use Rattle.program_io.specs.declared.status.Status.TheVariants.{Done, Refused, BadWords, ReadFault, WriteFault, NoMemory}

-- ---- one file

-- this is the report of a file without fault, with its path if there is one
abbrev pub IsReport : Report → (path : Option (List ℕ)) → (file text : List ℕ) → Type 0
IsReport Listing path file = IsListingBy (listing_line path) file
IsReport Document path file = IsListingBy (listing_json path) file
IsReport Changes path file = IsChangesText path file
IsReport (Left keep) path file = IsLeftText keep path file

-- the text of a row in a report, such as the row of a fault
abbrev pub report_row : Report → (path : Option (List ℕ)) → Row → List ℕ
report_row Listing path = listing_line path
report_row Document path = listing_json path
report_row Changes path = listing_line path
report_row (Left keep) path = listing_line path

-- what a command wrote for a file
abbrev pub EndsReport : {V : Type 0} → Report → (path : Option (List ℕ)) → List ℕ → Output V → Status → Type 0
EndsReport report path file out status = EndsText (IsReport report path file) (report_row report path) file out.contents out.old out.new status

-- ---- several files

-- A text is printed: it is written in parts, and the writer is flushed after each.
-- Success: all of the text was written without a fault, and the last flush succeeded. An empty text
-- may be printed by nothing. Failure: a prefix was written, and there was a fault or a failed flush.
abbrev pub PrintsTo : {V : Type 0} → Output V → List ℕ → Bool → Type 0
PrintsTo out text true =
    Appends (out.contents out.old.writer) (out.contents out.new.writer) text
    × (out.new.faults ≡ out.old.faults)
    × ((out.new ≡ out.old) ⊎ (out.new.flushed ≡ Some true))
PrintsTo out text false =
    AppendsFront (out.contents out.old.writer) (out.contents out.new.writer) text
    × ((out.old.faults < out.new.faults) ⊎ (out.new.flushed ≡ Some false))

-- a file of the command line: its bytes, or why it can't be read; and the status and the text for it
pub record Reported : Type 0 where
  pub read : Result (List ℕ) Status
  pub status : Status
  pub text : List ℕ

-- The status and the text for a file of which a read gave this. A file that can't be read has no
-- text, and one for which there was not enough memory (`Short`) has none either.
abbrev pub IsReported : (Short : Type 0) → Report → (path : Option (List ℕ)) → Result (List ℕ) Status → Status → List ℕ → Type 0
IsReported Short report path (Err reason) status text = (status ≡ reason) × (text ≡ [])
IsReported Short report path (Ok file) Done text = HasNoFault file × IsReport report path file text
IsReported Short report path (Ok file) Refused text = (fault : FileFault) × IsFirstFault file fault × (text ≡ report_row report path (fault_row file fault))
IsReported Short report path (Ok file) NoMemory text = HasNoFault file × Short × (text ≡ [])
IsReported Short report path (Ok file) BadWords text = ⊥
IsReported Short report path (Ok file) ReadFault text = ⊥
IsReported Short report path (Ok file) WriteFault text = ⊥

-- the path that a report has, if it has one
abbrev pub path_if : (named : Bool) → List ℕ → Option (List ℕ)
path_if named path = if named then Some path else None

-- This may be reported for the file of a path. `Gives` says what a read of a path may give.
abbrev pub MayReport : (Gives : List ℕ → Result (List ℕ) Status → Type 0) → (Short : Type 0) → Report → (named : Bool) → (path : List ℕ) → Reported → Type 0
MayReport Gives Short report named path file = Gives path file.read × IsReported Short report (path_if named path) file.read file.status file.text

-- What a command wrote for the file of a path, of which `May` says what may be reported. If a write
-- or a flush failed, it was one of the text.
pub record EndsNext {V : Type 0} (May : Reported → Type 0) (out : Output V) (status : Status) : Type 0 where
  pub whole : status ≢ WriteFault → (file : Reported) × May file × (file.status ≡ status) × PrintsTo out file.text true
  pub write_fault : status ≡ WriteFault → (file : Reported) × May file × PrintsTo out file.text false

-- the worst of a status and of those for files
abbrev pub worst_after : Status → List Reported → Status
worst_after status [] = status
worst_after status (file ∷ files) = worst_after (worse status file.status) files

-- the texts for files, one after another
abbrev pub texts : List Reported → List ℕ
texts files = flat_map (λ (file : Reported). file.text) files

-- The texts for the files of these paths, in order, were printed, and this is the worst status.
-- `May` says what may be reported for each.
pub record PrintsReports {V : Type 0} (May : (path : List ℕ) → Reported → Type 0) (paths : List (List ℕ)) (out : Output V) (status : Status) (ok : Bool) : Type 0 where
  pub files : List Reported
  pub each : AllZip May paths files
  pub worst : status ≡ worst_after Done files
  pub printed : PrintsTo out (texts files) ok

-- What a command wrote for the files of some paths. If a write or a flush failed, it was for the
-- last of the first `count` files, and the files after that one weren't read.
pub record EndsReports {V : Type 0} (May : (path : List ℕ) → Reported → Type 0) (paths : List (List ℕ)) (out : Output V) (status : Status) : Type 0 where
  pub whole : status ≢ WriteFault → PrintsReports May paths out status true
  pub write_fault : status ≡ WriteFault → (count : ℕ) × (until : Status) × PrintsReports May (take count paths) out until false
