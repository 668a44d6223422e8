-- The results of the check, and the rows of the faults in the parts in which it tests for them.
use Rattle.std.specs.Prelude.{◌≡◌, ◌⊎◌, ◌++◌, ℕ, List, length}
use Rattle.heap_model.specs.Heap.{HeapAccepted}
use Rattle.heap_model.specs.Store.{listed, Accepted}
use Rattle.heap_check.specs.Summary as heaps
use Rattle.heap_check.specs.Faults.{FirstBrought}
use Rattle.store_check.specs.declared.fault.StoreFault.{StoreFault}
use Rattle.store_check.specs.declared.fault.StoreFault.TheVariants.{OutOfMemory}
use Rattle.store_check.specs.declared.summary.StoreSummary.{StoreSummary}
use Rattle.store_check.specs.Faults.{directory_faults, header_faults, entry_faults, shared_faults, stray_faults, id_faults, name_faults, same_name_faults, IsFirstStoreFault}

-- the numbers are those of the image, its chunks and its directory
pub record SummarizesStore (image : List ℕ) (summary : StoreSummary) : Type 0 where
  pub heap : heaps.Summarizes image summary.heap
  pub databases : summary.databases ≡ length (listed image)

-- an allocation failed, which is reported only for an accepted heap; or this is the image's first
-- fault
abbrev pub IsAnswered : List ℕ → StoreFault → Type 0
IsAnswered image fault = ((fault ≡ OutOfMemory) × HeapAccepted image) ⊎ IsFirstStoreFault image fault

-- an allocation failed, or this is the first fault that some rows of the table bring
abbrev pub IsFirstOr : List (StoreFault → Type 0) → StoreFault → Type 0
IsFirstOr rows fault = (fault ≡ OutOfMemory) ⊎ FirstBrought rows fault

-- an allocation failed, or the image isn't accepted
abbrev pub IsRefusal : List ℕ → StoreFault → Type 0
IsRefusal image fault = (fault ≡ OutOfMemory) ⊎ (Accepted image → ⊥)

-- the faults of the databases that the directory lists
abbrev pub listed_faults : List ℕ → List (StoreFault → Type 0)
listed_faults image = directory_faults image ++ (header_faults image ++ entry_faults image)

-- the faults of chunks that are named twice, or by nothing
abbrev pub chunk_faults : List ℕ → List (StoreFault → Type 0)
chunk_faults image = shared_faults image ++ stray_faults image

-- the faults that are found by marks for slots
abbrev pub marked_faults : List ℕ → List (StoreFault → Type 0)
marked_faults image = listed_faults image ++ chunk_faults image

-- the faults of IDs and names
abbrev pub own_faults : List ℕ → List (StoreFault → Type 0)
own_faults image = id_faults image ++ (name_faults image ++ same_name_faults image)
