-- The steps of the calls on resources, and what searches find in a list of them.
use Rattle.std.specs.Prelude.{◌≡◌, ℕ, true, List, slice_get, take, count_by}
use Rattle.heap_model.specs.Memory.{Memory}
use Rattle.heap_model.specs.Database.{Entry}
use Rattle.heap_model.specs.EntrySteps.{OfEntry}
use Rattle.heap_model.specs.StoreSteps.{DoesInStore}
use Rattle.heap_model.specs.ResourceSteps.{ResourceCall, has_type}
use Rattle.heap_model.specs.declared.call.Call.TheVariants as calls
use Rattle.heap_model.specs.declared.call.Reply.{Reply}

abbrev pub DoesResource : Memory → ResourceCall → Reply → Memory → Type 0
DoesResource old call reply new = DoesInStore old (calls.Resource call) reply new

-- the entry of this index has the type, and `nth` entries before it have the type too
abbrev pub IsNth : List (Entry ℕ) → ℕ → ℕ → ℕ → Type 0
IsNth entries kind nth index = OfEntry (slice_get entries index) (λ entry. has_type kind entry ≡ true) × (count_by (has_type kind) (take index entries) ≡ nth)
