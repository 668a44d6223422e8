-- The statements of the laws about the faults of a store.
use Rattle.std.specs.Prelude.{◌↔◌, ℕ, List}
use Rattle.heap_model.specs.Bytes.{AreBytes}
use Rattle.heap_model.specs.Heap.{HeapAccepted}
use Rattle.heap_model.specs.Store.{Accepted}
use Rattle.store_check.specs.Faults.{store_faults, NoneBrought}

-- an accepted heap of bytes is accepted with its databases exactly if no row of the table brings a
-- fault
abbrev pub AcceptedWithoutFaults : Type 0
AcceptedWithoutFaults = (image : List ℕ) → HeapAccepted image → AreBytes image → (Accepted image ↔ NoneBrought (store_faults image))
