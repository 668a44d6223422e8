-- The faults of a store, in the order in which they are tested. All databases are tested for a
-- fault, in their order, before the next fault.
use Rattle.std.specs.Prelude.{◌≡◌, ◌≢◌, ◌<◌, ◌≤◌, ◌+◌, ◌*◌, ◌⊎◌, ℕ, List, [], ◌∷◌, length, Option, Some, codes}
use Rattle.heap_model.specs.Chunk.{managers_owner, data_owner}
use Rattle.heap_model.specs.Heap.{directory_of}
use Rattle.heap_model.specs.Lists.{times, Least, LeastPair}
use Rattle.heap_model.specs.Database.{entry_count_in, entry_in, name_in, HasName}
use Rattle.heap_model.specs.Bytes.{u32_at}
use Rattle.heap_model.specs.DatabaseFields.{app_info_at, sort_info_at}
use Rattle.heap_model.specs.Store.{owner_under, directory_bytes, listed, named, most_databases, IsHeaderSlot, IsInfoBlock, HasData, unique_id, listed_size}
use Rattle.db_format.specs.Headers.{AreWholeBytes}
use Rattle.heap_check.specs.Faults.{◌locates◌, FirstBrought, heap_fault_name, heap_fault_numbers}
use Rattle.heap_check.specs.Faults as heaps
use Rattle.heap_check.specs.declared.fault.HeapFault.{HeapFault}
use Rattle.heap_check.specs.declared.fault.Numbers.{Numbers}
use Rattle.heap_check.specs.declared.fault.Numbers.TheVariants.{Zero, One, Two}
use Rattle.store_check.specs.declared.fault.StoreFault.{StoreFault}
use Rattle.store_check.specs.declared.fault.StoreFault.TheVariants.{Heap, BadDirectorySlot, BadHeader, BadEntry, SharedChunk, StrayChunk, BadId, BadName, SameName, OutOfMemory}
use Rattle.store_check.specs.Listing.{listed_at, listed_count, header_at}

-- ---- each fault by itself

-- A word of the directory that is incomplete, is one too many, or occurs earlier. Or it is the
-- directory's own slot, or not the slot of a chunk of the manager's.
abbrev pub IsBadSlot : List ℕ → ℕ → Type 0
IsBadSlot image index =
    (listed_size * index < length (directory_bytes image))
    × ((length (directory_bytes image) < listed_size * index + listed_size)
    ⊎ ((most_databases ≤ index)
    ⊎ ((IsHeaderSlot image (listed_at image index) → ⊥)
    ⊎ ((earlier : ℕ) × (earlier < index) × (listed_at image earlier ≡ listed_at image index)))))

-- these bytes are a whole header and its entries, and its info words are 0 or the slots of chunks
-- for data
pub record HasDatabaseHeader (image bytes : List ℕ) : Type 0 where
  pub whole : AreWholeBytes bytes
  pub app_info : IsInfoBlock image (u32_at bytes app_info_at)
  pub sort_info : IsInfoBlock image (u32_at bytes sort_info_at)

-- the bytes of this database's header aren't as `HasDatabaseHeader` demands
abbrev pub IsBadHeader : List ℕ → ℕ → Type 0
IsBadHeader image db = (db < listed_count image) × (HasDatabaseHeader image (header_at image db) → ⊥)

-- this entry doesn't have its data in a chunk for data. Only a deleted record may have the slot 0.
abbrev pub HasBadEntry : List ℕ → List ℕ → ℕ → Type 0
HasBadEntry image bytes index = (index < entry_count_in bytes) × (HasData image (entry_in bytes index) → ⊥)

-- no entry of the header is bad
abbrev pub HasGoodEntries : List ℕ → List ℕ → Type 0
HasGoodEntries image bytes = (index : ℕ) → HasBadEntry image bytes index → ⊥

-- the entry with this index in this database is bad
abbrev pub IsBadEntry : List ℕ → ℕ → ℕ → Type 0
IsBadEntry image db index = (db < listed_count image) × HasBadEntry image (header_at image db) index

-- the slot isn't 0, and two entries or info blocks name it
abbrev pub IsShared : List ℕ → ℕ → Type 0
IsShared image slot = (slot ≢ 0) × (2 ≤ times slot (named image))

-- the slot's chunk is one for data that nothing names, or one of the manager's that is neither the
-- directory nor listed in it
abbrev pub IsStray : List ℕ → ℕ → Type 0
IsStray image slot =
    ((owner_under image slot ≡ data_owner) × (times slot (named image) ≡ 0))
    ⊎ ((owner_under image slot ≡ managers_owner) × (slot ≢ directory_of image) × (times slot (listed image) ≡ 0))

-- the unique ID of the entry with an index, if it is a record's
abbrev pub id_at : List ℕ → ℕ → Option ℕ
id_at bytes index = unique_id (entry_in bytes index)

-- the ID of this record is 0, or that of an earlier record of the database
abbrev pub HasBadId : List ℕ → ℕ → Type 0
HasBadId bytes index =
    (index < entry_count_in bytes)
    × ((id_at bytes index ≡ Some 0) ⊎ ((id earlier : ℕ) × (earlier < index) × (id_at bytes earlier ≡ Some id) × (id_at bytes index ≡ Some id)))

-- no record of the header has a bad ID
abbrev pub HasGoodIds : List ℕ → Type 0
HasGoodIds bytes = (index : ℕ) → HasBadId bytes index → ⊥

-- the record with this index in this database has a bad ID
abbrev pub IsBadId : List ℕ → ℕ → ℕ → Type 0
IsBadId image db index = (db < listed_count image) × HasBadId (header_at image db) index

-- the field for this database's name has none
abbrev pub IsBadName : List ℕ → ℕ → Type 0
IsBadName image db = (db < listed_count image) × (HasName (header_at image db) → ⊥)

-- an earlier database has the name of this one
abbrev pub IsSameName : List ℕ → ℕ → Type 0
IsSameName image db = (db < listed_count image) × ((earlier : ℕ) × (earlier < db) × (name_in (header_at image earlier) ≡ name_in (header_at image db)))

-- ---- the table of faults

infix 70 ◌locates_both◌
-- for each pair of numbers that satisfies P, the image has this fault with both
abbrev pub ◌locates_both◌ : {Fault : Type 0} → (ℕ → ℕ → Type 0) → (ℕ → ℕ → Fault) → Fault → Type 0
◌locates_both◌ P named fault = (m n : ℕ) × P m n × (fault ≡ named m n)

-- the faults of the directory, the headers and the entries
abbrev pub directory_faults : List ℕ → List (StoreFault → Type 0)
directory_faults image = (Least (IsBadSlot image) locates BadDirectorySlot) ∷ []

abbrev pub header_faults : List ℕ → List (StoreFault → Type 0)
header_faults image = (Least (IsBadHeader image) locates BadHeader) ∷ []

abbrev pub entry_faults : List ℕ → List (StoreFault → Type 0)
entry_faults image = (LeastPair (IsBadEntry image) locates_both BadEntry) ∷ []

-- the faults of chunks that are named twice, or by nothing
abbrev pub shared_faults : List ℕ → List (StoreFault → Type 0)
shared_faults image = (Least (IsShared image) locates SharedChunk) ∷ []

abbrev pub stray_faults : List ℕ → List (StoreFault → Type 0)
stray_faults image = (Least (IsStray image) locates StrayChunk) ∷ []

-- the faults of IDs and names
abbrev pub id_faults : List ℕ → List (StoreFault → Type 0)
id_faults image = (LeastPair (IsBadId image) locates_both BadId) ∷ []

abbrev pub name_faults : List ℕ → List (StoreFault → Type 0)
name_faults image = (Least (IsBadName image) locates BadName) ∷ []

abbrev pub same_name_faults : List ℕ → List (StoreFault → Type 0)
same_name_faults image = (Least (IsSameName image) locates SameName) ∷ []

-- the faults of the databases in an accepted heap
abbrev pub store_faults : List ℕ → List (StoreFault → Type 0)
store_faults image =
    (Least (IsBadSlot image) locates BadDirectorySlot)
    ∷ (Least (IsBadHeader image) locates BadHeader)
    ∷ (LeastPair (IsBadEntry image) locates_both BadEntry)
    ∷ (Least (IsShared image) locates SharedChunk)
    ∷ (Least (IsStray image) locates StrayChunk)
    ∷ (LeastPair (IsBadId image) locates_both BadId)
    ∷ (Least (IsBadName image) locates BadName)
    ∷ (Least (IsSameName image) locates SameName)
    ∷ []

-- the heap has a fault of its own, and this is the first
abbrev pub BringsHeap : List ℕ → StoreFault → Type 0
BringsHeap image fault = (first : HeapFault) × heaps.IsFirstHeapFault image first × (fault ≡ Heap first)

-- all faults: that of the heap, and then those of the databases
abbrev pub all_faults : List ℕ → List (StoreFault → Type 0)
all_faults image = BringsHeap image ∷ store_faults image

-- no row of a table brings a fault
abbrev pub NoneBrought : List (StoreFault → Type 0) → Type 0
NoneBrought [] = Unit {0}
NoneBrought (row ∷ rows) = ((fault : StoreFault) → row fault → ⊥) × NoneBrought rows

-- the image has the fault, and none of those that are tested earlier
abbrev pub IsFirstStoreFault : List ℕ → StoreFault → Type 0
IsFirstStoreFault image fault = FirstBrought (all_faults image) fault

-- ---- names and numbers

-- the name of the fault of an image, and its numbers
abbrev pub store_fault_name : StoreFault → List ℕ
store_fault_name (Heap fault) = heap_fault_name fault
store_fault_name (BadDirectorySlot index) = codes "BadDirectorySlot"
store_fault_name (BadHeader database) = codes "BadHeader"
store_fault_name (BadEntry database index) = codes "BadEntry"
store_fault_name (SharedChunk slot) = codes "SharedChunk"
store_fault_name (StrayChunk slot) = codes "StrayChunk"
store_fault_name (BadId database index) = codes "BadId"
store_fault_name (BadName database) = codes "BadName"
store_fault_name (SameName database) = codes "SameName"
store_fault_name OutOfMemory = codes "OutOfMemory"

abbrev pub store_fault_numbers : StoreFault → Numbers
store_fault_numbers (Heap fault) = heap_fault_numbers fault
store_fault_numbers (BadDirectorySlot index) = One index
store_fault_numbers (BadHeader database) = One database
store_fault_numbers (BadEntry database index) = Two database index
store_fault_numbers (SharedChunk slot) = One slot
store_fault_numbers (StrayChunk slot) = One slot
store_fault_numbers (BadId database index) = Two database index
store_fault_numbers (BadName database) = One database
store_fault_numbers (SameName database) = One database
store_fault_numbers OutOfMemory = Zero
