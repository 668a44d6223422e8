-- What C owns while it holds a store.
use Rattle.std.specs.Prelude.{◌≡◌, [], Option, Some, None}
use base.Fml.{Fml, ftrue}
use mir.Syntax.{Ty}
use denote.RawPtr.{Ptr, null_ptr}
use Rattle.palmheap_c.specs.Opened.{Opened}
use Rattle.std_alloc.specs.Box.Ownership.{box_owns}
use Rattle.std_heap.specs.contracts.GlobalAllocator.TheImpl.{ghosts}
use Rattle.palmheap_c.specs.contracts.kept.Held as held

-- the right to free a block of the heap
abbrev pub frees : Ty → Ptr → Fml
frees = ghosts.dealloc_token (record { memory = record { seal = tt } })

-- the store at this pointer, with the right to free it
abbrev pub owns_store : Ptr → Opened → Fml
owns_store at store = box_owns frees held.the_row at store

-- What a place for a store owns: an open store, or nothing.
abbrev pub slot_owns : Ptr → Option Opened → Fml
slot_owns at None = ftrue
slot_owns at (Some store) = owns_store at store

-- the store of a place that holds one, or else any store
abbrev pub kept_in : Option Opened → Opened
kept_in None = record { memory = record { bytes = []; slid = 0; lents = [] }; pointers = [] }
kept_in (Some store) = store

-- the place holds an open store
abbrev pub HoldsStore : Option Opened → Type 0
HoldsStore store = store ≡ Some (kept_in store)

-- the pointer of a place without a store is null
abbrev pub IsNullIfClosed : Option Opened → Ptr → Type 0
IsNullIfClosed store at = store ≡ None → at ≡ null_ptr
