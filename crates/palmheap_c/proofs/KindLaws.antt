-- The numbers of the kinds of faults.
use Rattle.palmheap_c.proofs.Words.{◌≡◌, ◌≤◌, ◌⊎◌, lit≤, inl, inr, refl, ScriptFault, UnknownCommand, WrongCount, BadWord, OutOfMemory, of_file, of_heap}
use Rattle.heap_check.specs.declared.fault.HeapFault.{HeapFault}
use Rattle.heap_check.specs.declared.fault.HeapFault.TheVariants.{TooShort, BadMagic, BadSize, BadSlotCount, BadReserved, BadPadding, BadChunk, BadTable, SlotMismatch, ChunkWithoutSlot, BadFixedOwner, BadDirectory}
use Rattle.heap_model.specs.declared.file_fault.FileFault.{FileFault}
use Rattle.heap_model.specs.declared.file_fault.FileFault.TheVariants.{Truncated, ChainedList, EmptyName, BadInfo, BadOffset}
use Rattle.heap_model.specs.declared.names.Which.TheVariants.{App, Sort}
use Rattle.palmheap_c.specs.Kinds.{kind_of_script}

pub heap_range : (fault : HeapFault) → (20 ≤ (of_heap fault).kind) × ((of_heap fault).kind ≤ 31)
heap_range TooShort = (lit≤ tt, lit≤ tt)
heap_range BadMagic = (lit≤ tt, lit≤ tt)
heap_range BadSize = (lit≤ tt, lit≤ tt)
heap_range BadSlotCount = (lit≤ tt, lit≤ tt)
heap_range BadReserved = (lit≤ tt, lit≤ tt)
heap_range BadPadding = (lit≤ tt, lit≤ tt)
heap_range (BadChunk at) = (lit≤ tt, lit≤ tt)
heap_range (BadTable index) = (lit≤ tt, lit≤ tt)
heap_range (SlotMismatch slot) = (lit≤ tt, lit≤ tt)
heap_range (ChunkWithoutSlot at) = (lit≤ tt, lit≤ tt)
heap_range (BadFixedOwner at) = (lit≤ tt, lit≤ tt)
heap_range BadDirectory = (lit≤ tt, lit≤ tt)

pub file_range : (fault : FileFault) → (60 ≤ (of_file fault).kind) × ((of_file fault).kind ≤ 65)
file_range Truncated = (lit≤ tt, lit≤ tt)
file_range ChainedList = (lit≤ tt, lit≤ tt)
file_range EmptyName = (lit≤ tt, lit≤ tt)
file_range (BadInfo App) = (lit≤ tt, lit≤ tt)
file_range (BadInfo Sort) = (lit≤ tt, lit≤ tt)
file_range (BadOffset index) = (lit≤ tt, lit≤ tt)

pub script_range : (fault : ScriptFault)
    → (kind_of_script fault ≡ 1) ⊎ ((70 ≤ kind_of_script fault) × (kind_of_script fault ≤ 72))
script_range UnknownCommand = inr (lit≤ tt, lit≤ tt)
script_range WrongCount = inr (lit≤ tt, lit≤ tt)
script_range (BadWord word) = inr (lit≤ tt, lit≤ tt)
script_range OutOfMemory = inl refl
