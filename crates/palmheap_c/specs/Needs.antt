-- The smallest image for the database of a file, for C.
use Rattle.std.specs.Prelude.{◌≡◌, ◌⊎◌, List, ℕ}
use Rattle.heap_model.specs.Files.{HasNoFault}
use Rattle.file_listing.specs.Listing.{needed_size, needed_slots}
use Rattle.palmheap_c.specs.Answers.{IsFileFault, IsMemoryAnswer, no_fault}
use Rattle.palmheap_c.specs.declared.answers.Answer.{Answer}
use Rattle.palmheap_c.specs.declared.needs.Needs.{Needs}

-- the least size and number of slots of an image into which the database of a file can be imported
abbrev pub needs_in : List ℕ → Needs
needs_in file = record { size = needed_size file; slots = needed_slots file }

-- The file has no fault, and these are its needs. Otherwise this is its first fault, or it has none
-- and an allocation failed, and the needs are unchanged.
abbrev pub IsNeedsAnswer : List ℕ → (old new : Needs) → Answer → Type 0
IsNeedsAnswer file old new found =
    ((found ≡ no_fault) × HasNoFault file × (new ≡ needs_in file))
    ⊎ ((IsFileFault file found ⊎ (HasNoFault file × IsMemoryAnswer found)) × (new ≡ old))
