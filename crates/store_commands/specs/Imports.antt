-- What `import` makes of files. Where a definition ends in a `Bool`, it says whether all was written and flushed.
use Rattle.std.specs.Prelude.{◌≡◌, ◌≢◌, ◌<◌, ◌≤◌, ◌⊎◌, ◌++◌, ℕ, Bool, true, false, List, [], ◌∷◌, length, replicate, take, slice_index_or, Option, Some, None, All, codes, decimal}
use Rattle.std.specs.List.{concat}
use Rattle.heap_model.specs.Memory.{Memory}
use Rattle.heap_model.specs.Files.{HasNoFault, IsFirstFault}
use Rattle.heap_model.specs.Store.{Accepted}
use Rattle.heap_model.specs.StoreSteps.{DoesInStore}
use Rattle.heap_model.specs.declared.names.Db.{Db}
use Rattle.heap_model.specs.declared.file_fault.FileFault.{FileFault}
use Rattle.heap_model.specs.declared.call.Call.TheVariants as calls
use Rattle.heap_model.specs.declared.call.FileCall.TheVariants.{Import}
use Rattle.heap_model.specs.declared.call.Reply.{Reply}
use Rattle.heap_model.specs.declared.call.Reply.TheVariants.{Refused as RefusedBy, Database}
use Rattle.heap_model.specs.declared.refusal.Refusal.{Refusal}
use Rattle.heap_model.specs.declared.refusal.Refusal.TheVariants.{BadFile, OutOfMemory}
use Rattle.chunk_format.specs.Blank.{IsBlank, IsRegionSize, LeavesRoom}
use Rattle.canonical_file.specs.Needs.{least_slots, least_size_for}
use Rattle.palm_text.specs.Output.{IsUnused, Output, PutsTo}
use Rattle.image_commands.specs.FaultLines.{PutsNoImage}
use Rattle.program_io.specs.declared.status.Status.{Status}
use Rattle.program_io.specs.declared.status.Status.TheVariants.{Done, Refused, BadWords, ReadFault, WriteFault, NoMemory}
use Rattle.script_calls.specs.Lines.{refusal_line}
use Rattle.store_commands.specs.declared.imports.ImageChoice.{ImageChoice}
use Rattle.store_commands.specs.declared.imports.NewImage.{NewImage}
use Rattle.store_commands.specs.declared.imports.NotImported.{NotImported}
use Rattle.store_commands.specs.declared.imports.NotImported.TheVariants as why
use Rattle.store_commands.specs.declared.exports.Ended.{Ended}

-- ---- the image

-- a number that is given, or else this one
abbrev pub given_or : Option ℕ → ℕ → ℕ
given_or None other = other
given_or (Some given) other = given

-- the slots and the size of the image for some files: what isn't given is the least that the files need
abbrev pub slots_for : ImageChoice → List (List ℕ) → ℕ
slots_for choice files = given_or choice.slots (least_slots files)

abbrev pub size_for : ImageChoice → List (List ℕ) → ℕ
size_for choice files = given_or choice.size (least_size_for (slots_for choice files) files)

-- this is the image
pub record IsChosen (choice : ImageChoice) (files : List (List ℕ)) (image : NewImage) : Type 0 where
  pub size : image.size ≡ size_for choice files
  pub slots : image.slots ≡ slots_for choice files

-- No file has a fault, and they need more slots than a table may have, or more bytes than an image may have.
abbrev pub NeedTooMuch : ImageChoice → List (List ℕ) → Type 0
NeedTooMuch choice files =
    All HasNoFault files × ((65535 < slots_for choice files) ⊎ ((choice.size ≡ None) × (IsRegionSize (size_for choice files) → ⊥)))

-- No file has a fault. They need no more slots than a table may have, and if no size is chosen, no more bytes than an
-- image may have.
pub record StayWithinLimits (choice : ImageChoice) (files : List (List ℕ)) : Type 0 where
  pub good : All HasNoFault files
  pub few : slots_for choice files ≤ 65535
  pub small : choice.size ≡ None → IsRegionSize (size_for choice files)

-- ---- imports, one after the other

-- the call `import` of a file is answered
abbrev pub Imports : Memory → List ℕ → Reply → Memory → Type 0
Imports old file reply new = DoesInStore old (calls.File (Import file)) reply new

-- all files are imported in their order
abbrev pub ImportsAll : Memory → List (List ℕ) → Memory → Type 0
ImportsAll old [] new = new ≡ old
ImportsAll old (file ∷ files) new = (db : Db) × (mid : Memory) × Imports old file (Database db) mid × ImportsAll mid files new

-- the store of a new image, which is blank
pub record IsNew (image : NewImage) (memory : Memory) : Type 0 where
  pub blank : IsBlank image.size image.slots memory.bytes
  pub whole : memory.lents ≡ []

-- the store that the files make of the new image
pub record IsFilled (choice : ImageChoice) (files : List (List ℕ)) (image : NewImage) (filled : Memory) : Type 0 where
  pub chosen : IsChosen choice files image
  pub blank : Memory
  pub is_new : IsNew image blank
  pub imported : ImportsAll blank files filled
  pub accepted : Accepted filled.bytes

-- A file has a fault and none before it has one; or no file has a fault, and the import of a file is refused after those
-- before it were done.
pub record IsImportRefused (choice : ImageChoice) (files : List (List ℕ)) (index : ℕ) (refusal : Refusal) : Type 0 where
  pub inside : index < length files
  pub not_memory : refusal ≢ OutOfMemory
  pub refused : ((fault : FileFault) × (refusal ≡ BadFile fault) × IsFirstFault (slice_index_or files index []) fault × All HasNoFault (take index files))
      ⊎ (All HasNoFault files × ((image : NewImage) × (blank : Memory) × (mid : Memory) × (new : Memory) × IsChosen choice files image × IsNew image blank
      × ImportsAll blank (take index files) mid × Imports mid (slice_index_or files index []) (RefusedBy refusal) new))

-- Why not all files were imported into a store: the import of one is refused after those before it were done. Nothing is
-- said of memory.
abbrev pub IsStopped : Memory → List (List ℕ) → NotImported → Type 0
IsStopped old files (why.RefusedFile index refusal) =
    (index < length files) × (refusal ≢ OutOfMemory)
    × ((mid : Memory) × (new : Memory) × ImportsAll old (take index files) mid × Imports mid (slice_index_or files index []) (RefusedBy refusal) new)
IsStopped old files why.TooLarge = ⊥
IsStopped old files why.BadSize = ⊥
IsStopped old files why.BadSlotCount = ⊥
IsStopped old files why.OutOfMemory = Unit {0}

-- why the file of an index isn't imported, if its import is refused
abbrev pub IsNotImported : ℕ → Refusal → NotImported → Type 0
IsNotImported index refusal (why.RefusedFile at which) = (at ≡ index) × (which ≡ refusal) × (refusal ≢ OutOfMemory)
IsNotImported index refusal why.TooLarge = ⊥
IsNotImported index refusal why.BadSize = ⊥
IsNotImported index refusal why.BadSlotCount = ⊥
IsNotImported index refusal why.OutOfMemory = refusal ≡ OutOfMemory

-- why there is no new image
abbrev pub IsNoImage : NewImage → NotImported → Type 0
IsNoImage image (why.RefusedFile index refusal) = ⊥
IsNoImage image why.TooLarge = ⊥
IsNoImage image why.BadSize = IsRegionSize image.size → ⊥
IsNoImage image why.BadSlotCount = IsRegionSize image.size × (LeavesRoom image.size image.slots → ⊥)
IsNoImage image why.OutOfMemory = Unit {0}

-- why there is no such store
abbrev pub IsWhy : ImageChoice → List (List ℕ) → NotImported → Type 0
IsWhy choice files (why.RefusedFile index refusal) = IsImportRefused choice files index refusal
IsWhy choice files why.TooLarge = NeedTooMuch choice files
IsWhy choice files why.BadSize = StayWithinLimits choice files × (IsRegionSize (size_for choice files) → ⊥)
IsWhy choice files why.BadSlotCount = StayWithinLimits choice files × IsRegionSize (size_for choice files) × (LeavesRoom (size_for choice files) (slots_for choice files) → ⊥)
IsWhy choice files why.OutOfMemory = Unit {0}

-- ---- what is printed

-- the size and the slot count of the image
unfoldable pub image_line : NewImage → List ℕ
image_line image = codes "ok " ++ (decimal image.size ++ (codes " " ++ (decimal image.slots ++ codes "\n")))

-- and the reply line of each import
abbrev pub import_text : NewImage → ℕ → List ℕ
import_text image count = image_line image ++ concat (replicate count (codes "ok\n"))

-- by the status, what was written of an image into which `count` files were imported, and then of the lines
abbrev pub PutsFilled : {W V : Type 0} → NewImage → ℕ → List ℕ → Output W → Output V → Status → Type 0
PutsFilled image count bytes image_out out Done = PutsTo image_out bytes true × PutsTo out (import_text image count) true
PutsFilled image count bytes image_out out WriteFault =
    (PutsTo image_out bytes false × IsUnused out)
    ⊎ (PutsTo image_out bytes true × PutsTo out (import_text image count) false)
PutsFilled image count bytes image_out out Refused = ⊥
PutsFilled image count bytes image_out out BadWords = ⊥
PutsFilled image count bytes image_out out ReadFault = ⊥
PutsFilled image count bytes image_out out NoMemory = ⊥

-- the whole image, and then the lines
pub record PutsImport {W V : Type 0} (choice : ImageChoice) (files : List (List ℕ)) (image_out : Output W) (out : Output V) (ok : Bool) : Type 0 where
  pub image : NewImage
  pub filled : Memory
  pub is_filled : IsFilled choice files image filled
  pub written : PutsTo image_out filled.bytes true
  pub told : PutsTo out (import_text image (length files)) ok

-- the image, of which not all was written
abbrev pub PutsPartOfImage : {W : Type 0} → ImageChoice → List (List ℕ) → Output W → Type 0
PutsPartOfImage choice files image_out = (image : NewImage) × (filled : Memory) × IsFilled choice files image filled × PutsTo image_out filled.bytes false

-- the line for a refused file, or for files that need too much
abbrev pub PutsRefused : {V : Type 0} → ImageChoice → List (List ℕ) → Output V → Option ℕ → Bool → Type 0
PutsRefused choice files out word ok =
    ((index : ℕ) × (refusal : Refusal) × (word ≡ Some index) × IsImportRefused choice files index refusal × PutsTo out (refusal_line refusal) ok)
    ⊎ (NeedTooMuch choice files × (word ≡ None) × PutsTo out (codes "bad TooLarge\n") ok)

-- the line for the size and the slots, if no image may have those that were chosen
abbrev pub PutsBadChoice : {V : Type 0} → ImageChoice → List (List ℕ) → Output V → Option ℕ → Bool → Type 0
PutsBadChoice choice files out word ok =
    StayWithinLimits choice files × (word ≡ None) × PutsNoImage (size_for choice files) (slots_for choice files) out ok

-- A write or a flush failed in `import`, and nothing was written after it: it was one of the image's, and nothing was
-- printed; or one of the lines, after the whole image; or one of the line that says why there is no image.
abbrev pub ImportBreaksOff : {W V : Type 0} → ImageChoice → List (List ℕ) → Output W → Output V → Option ℕ → Type 0
ImportBreaksOff choice files image_out out word =
    ((word ≡ None) × PutsPartOfImage choice files image_out × IsUnused out)
    ⊎ ((word ≡ None) × PutsImport choice files image_out out false)
    ⊎ (PutsRefused choice files out word false × IsUnused image_out)
    ⊎ (PutsBadChoice choice files out word false × IsUnused image_out)

-- what `import` printed that made no image, and the index of the file that is refused
abbrev pub EndsRefusedBy : {V : Type 0} → ImageChoice → List (List ℕ) → Output V → Option ℕ → Status → Type 0
EndsRefusedBy choice files out word Done = ⊥
EndsRefusedBy choice files out word Refused = PutsRefused choice files out word true
EndsRefusedBy choice files out word BadWords = PutsBadChoice choice files out word true
EndsRefusedBy choice files out word NoMemory = (word ≡ None) × IsUnused out
EndsRefusedBy choice files out word WriteFault = PutsRefused choice files out word false ⊎ PutsBadChoice choice files out word false
EndsRefusedBy choice files out word ReadFault = ⊥

abbrev pub EndsRefused : {V : Type 0} → ImageChoice → List (List ℕ) → Output V → Ended → Type 0
EndsRefused choice files out ended = EndsRefusedBy choice files out ended.word ended.status

-- what `import` wrote, and the index of the file that is refused, by the status with which it ends
abbrev pub EndsImportBy : {W V : Type 0} → ImageChoice → List (List ℕ) → Output W → Output V → Option ℕ → Status → Type 0
EndsImportBy choice files image_out out word Done = (word ≡ None) × PutsImport choice files image_out out true
EndsImportBy choice files image_out out word Refused = PutsRefused choice files out word true × IsUnused image_out
EndsImportBy choice files image_out out word BadWords = PutsBadChoice choice files out word true × IsUnused image_out
EndsImportBy choice files image_out out word NoMemory = (word ≡ None) × IsUnused image_out × IsUnused out
EndsImportBy choice files image_out out word WriteFault = ImportBreaksOff choice files image_out out word
EndsImportBy choice files image_out out word ReadFault = ⊥

abbrev pub EndsImport : {W V : Type 0} → ImageChoice → List (List ℕ) → Output W → Output V → Ended → Type 0
EndsImport choice files image_out out ended = EndsImportBy choice files image_out out ended.word ended.status
