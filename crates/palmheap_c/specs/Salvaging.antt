-- The salvaged file of a damaged file, and the lines about its faults, for C.
use Rattle.std.specs.Prelude.{◌≡◌, ◌<◌, ◌≤◌, ◌⊎◌, ℕ, Bool, List, ◌==◌, if◌then◌else◌, length, count_by}
use Rattle.heap_model.specs.DatabaseFields.{header_size}
use Rattle.canonical_file.specs.Canonical.{most_bytes}
use Rattle.canonical_file.specs.Salvage.{Salvages, salvage_lines}
use Rattle.canonical_file.specs.declared.salvage.SalvagedIds.{SalvagedIds}
use Rattle.canonical_file.specs.declared.salvage.SalvagedIds.TheVariants.{Distinct, Exact}
use Rattle.palmheap_c.specs.Answers.{IsFileFault, IsMemoryAnswer, too_large}
use Rattle.palmheap_c.specs.Buffers.{Buffer, PutsBytes}
use Rattle.palmheap_c.specs.declared.answers.Answer.{Answer}

-- whether each record has the ID that it has in the damaged file
abbrev pub rule_of : Bool → SalvagedIds
rule_of exact_ids = if exact_ids then Exact else Distinct

-- the byte ends a line
abbrev pub is_line_end : ℕ → Bool
is_line_end byte = byte == 10

-- The file is longer than `most_bytes`, or shorter than a header: then this is its first fault.
-- Otherwise an allocation failed.
abbrev pub IsSalvageRefusal : List ℕ → Answer → Type 0
IsSalvageRefusal file found =
    ((found ≡ too_large) × (most_bytes < length file))
    ⊎ ((length file ≤ most_bytes) × (((length file < header_size) × IsFileFault file found) ⊎ ((header_size ≤ length file) × IsMemoryAnswer found)))

-- the memory of the caller that is written
pub record SalvageOutputs : Type 0 where
  pub bytes : List ℕ
  pub count : ℕ
  pub faults : ℕ

abbrev pub salvage_outputs : List ℕ → (count faults : ℕ) → SalvageOutputs
salvage_outputs bytes count faults = record { bytes = bytes; count = count; faults = faults }

-- The new file was written, or the buffer is too short for it, and the faults are counted.
-- Otherwise the file is refused, and nothing was written.
abbrev pub IsSalvageAnswer : Bool → List ℕ → (old new : SalvageOutputs) → Answer → Type 0
IsSalvageAnswer exact_ids file old new found =
    ((bytes : List ℕ) × Salvages (rule_of exact_ids) file bytes × PutsBytes bytes old.bytes new.bytes new.count found × (new.faults ≡ count_by is_line_end (salvage_lines file)))
    ⊎ (IsSalvageRefusal file found × (new ≡ old))

-- the same for the lines about the faults
abbrev pub IsLinesAnswer : List ℕ → (old new : Buffer) → Answer → Type 0
IsLinesAnswer file old new found =
    PutsBytes (salvage_lines file) old.bytes new.bytes new.count found
    ⊎ (IsSalvageRefusal file found × (new ≡ old))
