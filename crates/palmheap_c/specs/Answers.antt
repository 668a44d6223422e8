-- Faults as numbers, and the results for a file and for an image.
use Rattle.std.specs.Prelude.{◌≡◌, ◌<◌, ◌≤◌, ◌⊎◌, ℕ, List, length}
use Rattle.allowance.specs.Refusals.{GrowthRefused}
use Rattle.heap_model.specs.Store.{Accepted}
use Rattle.heap_model.specs.Files as files
use Rattle.heap_model.specs.declared.file_fault.FileFault.{FileFault}
use Rattle.heap_model.specs.declared.file_fault.FileFault.TheVariants.{Truncated, ChainedList, EmptyName, BadInfo, BadOffset}
use Rattle.heap_model.specs.declared.names.Which.TheVariants.{App, Sort}
use Rattle.heap_check.specs.declared.fault.HeapFault.{HeapFault}
use Rattle.heap_check.specs.declared.fault.HeapFault.TheVariants.{TooShort, BadMagic, BadSize, BadSlotCount, BadReserved, BadPadding, BadChunk, BadTable, SlotMismatch, ChunkWithoutSlot, BadFixedOwner, BadDirectory}
use Rattle.store_check.specs.declared.fault.StoreFault.{StoreFault}
use Rattle.store_check.specs.declared.fault.StoreFault.TheVariants.{Heap, BadDirectorySlot, BadHeader, BadEntry, SharedChunk, StrayChunk, BadId, BadName, SameName, OutOfMemory}
use Rattle.store_check.specs.declared.summary.StoreSummary.{StoreSummary}
use Rattle.store_check.specs.Checks.{SummarizesStore}
use Rattle.store_check.specs.Faults as stores
use Rattle.canonical_file.specs.Canonical.{most_bytes}
use Rattle.palmheap_c.specs.declared.answers.Answer.{Answer}
use Rattle.palmheap_c.specs.declared.counts.Counts.{Counts}

-- ---- the numbers

abbrev pub answer : ℕ → ℕ → ℕ → Answer
answer kind at entry = record { kind = kind; at = at; entry = entry }

abbrev pub no_fault : Answer
no_fault = answer 0 0 0

abbrev pub memory_answer : Answer
memory_answer = answer 1 0 0

abbrev pub no_room : Answer
no_room = answer 2 0 0

abbrev pub too_large : Answer
too_large = answer 3 0 0

abbrev pub bad_size : Answer
bad_size = answer 4 0 0

abbrev pub bad_slot_count : Answer
bad_slot_count = answer 5 0 0

abbrev pub no_file : Answer
no_file = answer 6 0 0

-- this is the fault of a file or of an image
abbrev pub IsFault : Answer → Type 0
IsFault found = 20 ≤ found.kind

-- the fault of a file
abbrev pub of_file : FileFault → Answer
of_file Truncated = answer 60 0 0
of_file ChainedList = answer 61 0 0
of_file EmptyName = answer 62 0 0
of_file (BadInfo App) = answer 63 0 0
of_file (BadInfo Sort) = answer 64 0 0
of_file (BadOffset index) = answer 65 index 0

-- the fault of an image that is no heap
abbrev pub of_heap : HeapFault → Answer
of_heap TooShort = answer 20 0 0
of_heap BadMagic = answer 21 0 0
of_heap BadSize = answer 22 0 0
of_heap BadSlotCount = answer 23 0 0
of_heap BadReserved = answer 24 0 0
of_heap BadPadding = answer 25 0 0
of_heap (BadChunk at) = answer 26 at 0
of_heap (BadTable index) = answer 27 index 0
of_heap (SlotMismatch slot) = answer 28 slot 0
of_heap (ChunkWithoutSlot at) = answer 29 at 0
of_heap (BadFixedOwner at) = answer 30 at 0
of_heap BadDirectory = answer 31 0 0

-- the fault of an image
abbrev pub of_store : StoreFault → Answer
of_store (Heap fault) = of_heap fault
of_store (BadDirectorySlot index) = answer 40 index 0
of_store (BadHeader db) = answer 41 db 0
of_store (BadEntry db entry) = answer 42 db entry
of_store (SharedChunk slot) = answer 43 slot 0
of_store (StrayChunk slot) = answer 44 slot 0
of_store (BadId db entry) = answer 45 db entry
of_store (BadName db) = answer 46 db 0
of_store (SameName db) = answer 47 db 0
of_store OutOfMemory = memory_answer

-- ---- results

-- an allocation failed, and this is the result
abbrev pub IsMemoryAnswer : Answer → Type 0
IsMemoryAnswer found = (found ≡ memory_answer) × GrowthRefused

-- this is the first fault of a file
abbrev pub IsFileFault : List ℕ → Answer → Type 0
IsFileFault file found = (fault : FileFault) × files.IsFirstFault file fault × (found ≡ of_file fault)

-- the file has no fault, or this is its first one
abbrev pub IsFileAnswer : List ℕ → Answer → Type 0
IsFileAnswer file found = ((found ≡ no_fault) × files.HasNoFault file) ⊎ IsFileFault file found

-- The file is longer than `most_bytes`. Otherwise this is its first fault, or it has none and an
-- allocation failed.
abbrev pub IsFileRefusal : List ℕ → Answer → Type 0
IsFileRefusal file found =
    ((found ≡ too_large) × (most_bytes < length file))
    ⊎ ((length file ≤ most_bytes) × (IsFileFault file found ⊎ (files.HasNoFault file × IsMemoryAnswer found)))

-- this is the first fault of an image
abbrev pub IsImageFault : List ℕ → Answer → Type 0
IsImageFault image found = (fault : StoreFault) × stores.IsFirstStoreFault image fault × (found ≡ of_store fault)

abbrev pub counts_of : StoreSummary → Counts
counts_of summary = record {
  size = summary.heap.size;
  slots = summary.heap.slots;
  movable = summary.heap.movable;
  fixed = summary.heap.fixed;
  free = summary.heap.free;
  databases = summary.databases;
}

-- an image is accepted, and these are its counts
pub record HasCounts (image : List ℕ) (counts : Counts) : Type 0 where
  pub accepted : Accepted image
  pub summary : StoreSummary
  pub summarizes : SummarizesStore image summary
  pub counts_are : counts ≡ counts_of summary

-- The image is accepted, and these are its counts. Otherwise this is its first fault, or an
-- allocation failed, and the counts are unchanged.
abbrev pub IsImageAnswer : List ℕ → (old new : Counts) → Answer → Type 0
IsImageAnswer image old new found = ((found ≡ no_fault) × HasCounts image new) ⊎ ((IsMemoryAnswer found ⊎ IsImageFault image found) × (new ≡ old))
