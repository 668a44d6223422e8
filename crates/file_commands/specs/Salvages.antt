-- What `salvage` writes: the new file to one output, and lines to another one. A definition that
-- ends in a `Bool` has it true if all was written and flushed, and false if a write or a flush
-- failed.
use Rattle.std.specs.Prelude.{◌≡◌, ◌≢◌, ◌<◌, ◌≤◌, ◌⊎◌, ◌++◌, ℕ, Bool, true, false, List, length}
use Rattle.heap_model.specs.DatabaseFields.{header_size}
use Rattle.palm_text.specs.Output.{Output, PutsTo, IsUnused}
use Rattle.canonical_file.specs.Salvage as salvage
use Rattle.canonical_file.specs.Salvage.{salvage_lines}
use Rattle.canonical_file.specs.declared.salvage.SalvagedIds.{SalvagedIds}
use Rattle.program_io.specs.declared.status.Status.{Status}
use Rattle.program_io.specs.declared.status.Status.TheVariants.{Done, Refused, BadWords, ReadFault, WriteFault, NoMemory}
use Rattle.file_commands.specs.Ends.{PutsFault, written_line}

-- the line with the size of the new file, and the lines about the faults of the old one
unfoldable pub salvaged_lines : List ℕ → ℕ → List ℕ
salvaged_lines file count = written_line count ++ salvage_lines file

-- all of the new file went to an output, and it has `count` bytes
abbrev pub PutWhole : {W : Type 0} → SalvagedIds → List ℕ → Output W → ℕ → Type 0
PutWhole rule file file_out count =
    (header_size ≤ length file) × ((bytes : List ℕ) × salvage.Salvages rule file bytes × (count ≡ length bytes) × PutsTo file_out bytes true)

-- the new file, and then its lines
pub record PutsSalvaged {W V : Type 0} (rule : SalvagedIds) (file : List ℕ) (file_out : Output W) (out : Output V) (ok : Bool) : Type 0 where
  pub header : header_size ≤ length file
  pub bytes : List ℕ
  pub salvaged : salvage.Salvages rule file bytes
  pub written : PutsTo file_out bytes true
  pub told : PutsTo out (salvaged_lines file (length bytes)) ok

-- the new file without the lines: a write of it failed, or the flush after it
abbrev pub PutsSalvagedPart : {W : Type 0} → SalvagedIds → List ℕ → Output W → Type 0
PutsSalvagedPart rule file file_out = (bytes : List ℕ) × salvage.Salvages rule file bytes × PutsTo file_out bytes false

-- the lines for a file that is too short for a header
abbrev pub PutsNoHeader : {V : Type 0} → List ℕ → Output V → Bool → Type 0
PutsNoHeader file out ok = (length file < header_size) × PutsFault file out.contents out.old out.new ok

-- A write or a flush failed in `salvage`, and nothing was written after it. There are three cases:
-- - It failed for the file, and nothing was printed.
-- - It failed for the lines, after the whole file.
-- - The file has no header, and it failed for the lines about that.
abbrev pub SalvageBreaksOff : {W V : Type 0} → SalvagedIds → List ℕ → Output W → Output V → Type 0
SalvageBreaksOff rule file file_out out =
    (PutsSalvagedPart rule file file_out × IsUnused out)
    ⊎ PutsSalvaged rule file file_out out false
    ⊎ (PutsNoHeader file out false × IsUnused file_out)

-- what `salvage` wrote for a file
pub record EndsSalvage {W V : Type 0} (rule : SalvagedIds) (file : List ℕ) (file_out : Output W) (out : Output V) (status : Status) : Type 0 where
  pub done : status ≡ Done → PutsSalvaged rule file file_out out true
  pub refused : status ≡ Refused → PutsNoHeader file out true × IsUnused file_out
  pub no_memory : status ≡ NoMemory → (header_size ≤ length file) × IsUnused file_out × IsUnused out
  pub write_fault : status ≡ WriteFault → SalvageBreaksOff rule file file_out out
  pub good_words : status ≢ BadWords
  pub reads_nothing : status ≢ ReadFault
