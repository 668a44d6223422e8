-- What `unpack` and `pack` write. A definition that ends in a `Bool` has it true if all was written
-- and flushed, and false if a write or a flush failed.
use Rattle.std.specs.Prelude.{◌≡◌, ◌<◌, ◌≤◌, ◌⊎◌, ◌+◌, ℕ, zero, suc, is_some, if◌then◌else◌, Bool, true, false, List, length, Option, codes}
use Rattle.heap_model.specs.Files.{HasNoFault}
use Rattle.palm_text.specs.Counted.{Writing}
use Rattle.palm_text.specs.Output.{Puts}
use Rattle.canonical_file.specs.Canonical.{most_bytes}
use Rattle.script_lines.specs.declared.fault.LineFault.{LineFault}
use Rattle.file_parts.specs.Either.{IsFaultyText, IsFolderPackFault, IsPackedOf, folder_size, taken_count, taken_part}
use Rattle.file_parts.specs.declared.either.ListedFolder.{ListedFolder}
use Rattle.file_parts.specs.declared.either.TakenApart.{TakenApart}
use Rattle.file_parts.specs.declared.packing.PackFault.TheVariants.{BadLine}
use Rattle.file_commands.specs.LineFaults as lines
use Rattle.program_io.specs.declared.status.Status.{Status}
use Rattle.program_io.specs.declared.status.Status.TheVariants.{Done, Refused, BadWords, ReadFault, WriteFault, NoMemory}
use Rattle.file_commands.specs.Ends.{PutsFault, written_line}

-- how many parts with a number below this one are there
unfoldable pub parts_below : TakenApart → ℕ → ℕ
parts_below taken zero = 0
parts_below taken (suc number) = if is_some (taken_part taken number) then parts_below taken number + 1 else parts_below taken number

-- the number of files in the folder of a file that is taken apart: its parts that are there, and the
-- text
abbrev pub file_count : TakenApart → ℕ
file_count taken = parts_below taken (taken_count taken) + 1

-- what was written if a file was not taken apart, by the status
abbrev pub NotUnpacked : {V : Type 0} → List ℕ → (V → Option (List ℕ)) → Writing V → Writing V → Status → Type 0
NotUnpacked file contents old new Refused = PutsFault file contents old new true
NotUnpacked file contents old new WriteFault = PutsFault file contents old new false
NotUnpacked file contents old new NoMemory = HasNoFault file × (new ≡ old)
NotUnpacked file contents old new Done = ⊥
NotUnpacked file contents old new BadWords = ⊥
NotUnpacked file contents old new ReadFault = ⊥

-- the line for the first faulty line of the text of a folder
abbrev pub PutsLineFault : {V : Type 0} → List ℕ → (V → Option (List ℕ)) → Writing V → Writing V → Bool → Type 0
PutsLineFault text contents old new ok = (fault : LineFault) × IsFaultyText text fault × lines.PutsScriptRefused fault contents old new ok

-- what was written if the text of a folder was not read, by the status
abbrev pub NotListed : {V : Type 0} → List ℕ → (V → Option (List ℕ)) → Writing V → Writing V → Status → Type 0
NotListed text contents old new Refused = PutsLineFault text contents old new true
NotListed text contents old new WriteFault = PutsLineFault text contents old new false
NotListed text contents old new NoMemory = new ≡ old
NotListed text contents old new Done = ⊥
NotListed text contents old new BadWords = ⊥
NotListed text contents old new ReadFault = ⊥

-- the file of a folder, which is not too large, and then the line with its size
pub record PutsPacked {W V : Type 0} (folder : ListedFolder) (parts : List (List ℕ)) (file_contents : W → Option (List ℕ)) (file_old file_new : Writing W) (contents : V → Option (List ℕ)) (old new : Writing V) (ok : Bool) : Type 0 where
  pub bytes : List ℕ
  pub packed : IsPackedOf folder parts bytes
  pub fits : folder_size folder parts ≤ most_bytes
  pub written : Puts file_contents file_old file_new bytes true
  pub told : Puts contents old new (written_line (length bytes)) ok

-- the file without the line: a write of it failed, or the flush after it
abbrev pub PutsPackedPart : {W : Type 0} → ListedFolder → List (List ℕ) → (W → Option (List ℕ)) → Writing W → Writing W → Type 0
PutsPackedPart folder parts contents old new = (bytes : List ℕ) × IsPackedOf folder parts bytes × Puts contents old new bytes false

-- the line for a file that would be too large
abbrev pub PutsTooLarge : {V : Type 0} → ListedFolder → List (List ℕ) → (V → Option (List ℕ)) → Writing V → Writing V → Bool → Type 0
PutsTooLarge folder parts contents old new ok = (most_bytes < folder_size folder parts) × Puts contents old new (codes "bad TooLarge\n") ok

-- the line for a line `order` that can't be kept; only an exact folder has one
abbrev pub PutsMisplaced : {V : Type 0} → ListedFolder → List (List ℕ) → (V → Option (List ℕ)) → Writing V → Writing V → Bool → Type 0
PutsMisplaced folder parts contents old new ok = (fault : LineFault) × IsFolderPackFault folder parts (BadLine fault) × lines.PutsScriptRefused fault contents old new ok

-- A write or a flush failed in `pack`, and nothing was written after it. There are four cases:
-- - It failed for the file, and nothing was printed.
-- - It failed for the line, after the whole file.
-- - The file would be too large, and it failed for the line about that.
-- - A line `order` can't be kept, and it failed for the line about that.
abbrev pub PackBreaksOff : {W V : Type 0} → ListedFolder → List (List ℕ) → (W → Option (List ℕ)) → Writing W → Writing W → (V → Option (List ℕ)) → Writing V → Writing V → Type 0
PackBreaksOff folder parts file_contents file_old file_new contents old new =
    (PutsPackedPart folder parts file_contents file_old file_new × (new ≡ old))
    ⊎ PutsPacked folder parts file_contents file_old file_new contents old new false
    ⊎ (PutsTooLarge folder parts contents old new false × (file_new ≡ file_old))
    ⊎ (PutsMisplaced folder parts contents old new false × (file_new ≡ file_old))

-- `pack` refused a folder, and wrote no file
abbrev pub PackRefuses : {W V : Type 0} → ListedFolder → List (List ℕ) → Writing W → Writing W → (V → Option (List ℕ)) → Writing V → Writing V → Type 0
PackRefuses folder parts file_old file_new contents old new =
    (PutsTooLarge folder parts contents old new true × (file_new ≡ file_old))
    ⊎ (PutsMisplaced folder parts contents old new true × (file_new ≡ file_old))

-- what `pack` wrote for a folder, by its status
abbrev pub EndsPack : {W V : Type 0} → ListedFolder → List (List ℕ) → (W → Option (List ℕ)) → Writing W → Writing W → (V → Option (List ℕ)) → Writing V → Writing V → Status → Type 0
EndsPack folder parts file_contents file_old file_new contents old new Done = PutsPacked folder parts file_contents file_old file_new contents old new true
EndsPack folder parts file_contents file_old file_new contents old new Refused = PackRefuses folder parts file_old file_new contents old new
EndsPack folder parts file_contents file_old file_new contents old new NoMemory = (file_new ≡ file_old) × (new ≡ old)
EndsPack folder parts file_contents file_old file_new contents old new WriteFault = PackBreaksOff folder parts file_contents file_old file_new contents old new
EndsPack folder parts file_contents file_old file_new contents old new BadWords = ⊥
EndsPack folder parts file_contents file_old file_new contents old new ReadFault = ⊥
