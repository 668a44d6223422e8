-- The checks with which the calls on records begin, and the steps that these calls do.
use Rattle.std.specs.Prelude.{ℕ, List, [], ◌∷◌}
use Rattle.heap_model.specs.Memory.{Memory}
use Rattle.heap_model.specs.EntrySteps.{entry_under, OfEntry, IsInfoOf, no_entry}
use Rattle.heap_model.specs.StoreSteps.{DoesInStore}
use Rattle.heap_model.specs.Store.{store_of}
use Rattle.heap_model.specs.Refusals.{Check}
use Rattle.heap_model.specs.RecordSteps.{RecordCall, deleted}
use Rattle.heap_model.specs.declared.names.Db.{Db}
use Rattle.heap_model.specs.declared.entry.RecordInfo.{RecordInfo}
use Rattle.heap_model.specs.declared.call.Call.TheVariants as calls
use Rattle.heap_model.specs.declared.call.Reply.{Reply}
use Rattle.palm_store.specs.Checks.{opening_checks}
use Rattle.palm_store.specs.declared.opening.Access.{Access}
use Rattle.palm_store.specs.declared.opening.EntryKind.TheVariants.{Records}

-- the checks of a call on a record that may not be deleted
abbrev pub living_checks : List ℕ → Db → ℕ → Access → List Check
living_checks image db index access = opening_checks image db Records access (no_entry (store_of image) db index ∷ deleted (store_of image) db index ∷ [])

abbrev pub DoesRecord : Memory → RecordCall → Reply → Memory → Type 0
DoesRecord old call reply new = DoesInStore old (calls.Record call) reply new

-- this is the info of the record at an index
abbrev pub IsRecordTold : List ℕ → Db → ℕ → RecordInfo → Type 0
IsRecordTold image db index info = OfEntry (entry_under (store_of image) db index) (IsInfoOf info)
