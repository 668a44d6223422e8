-- What is written for a salvaged file, and why nothing is.
use Rattle.std.specs.Prelude.{◌≡◌, ◌≤◌, ◌<◌, ℕ, List, length}
use Rattle.heap_model.specs.DatabaseFields.{header_size}
use Rattle.heap_model.specs.UniqueIds.{seed_in}
use Rattle.heap_model.specs.Database.{header_in, database_in}
use Rattle.heap_model.specs.Store.{unique_ids}
use Rattle.heap_model.specs.Files.{IsFirstFault, file_of}
use Rattle.pdb_format.specs.ReadFiles.{database_read}
use Rattle.canonical_file.specs.Canonical.{IsCanonical}
use Rattle.canonical_file.specs.declared.canonical.CanonicalFault.{CanonicalFault}
use Rattle.canonical_file.specs.declared.canonical.CanonicalFault.TheVariants.{BadFile, OutOfMemory, Write}
use Rattle.canonical_file.specs.declared.salvage.SalvagedIds.{SalvagedIds}
use Rattle.canonical_file.specs.declared.salvage.SalvagedIds.TheVariants.{Distinct, Exact}

-- these bytes are the canonical form of a file without fault, or the same with the IDs of the file
abbrev pub IsRewrittenBy : SalvagedIds → List ℕ → List ℕ → Type 0
IsRewrittenBy Distinct file bytes = IsCanonical file bytes
IsRewrittenBy Exact file bytes = bytes ≡ file_of (database_read file (unique_ids (database_in file)) (seed_in (header_in file).seed))

-- The reason why no file was salvaged. Only a file that is shorter than a header is refused.
abbrev pub IsSalvageFault : List ℕ → CanonicalFault → Type 0
IsSalvageFault file (BadFile fault) = (length file < header_size) × IsFirstFault file fault
IsSalvageFault file OutOfMemory = header_size ≤ length file
IsSalvageFault file Write = header_size ≤ length file
