-- The condition on the unique ID of an entry that is added to a database or replaces one.
use Rattle.std.specs.Prelude.{◌≡◌, ◌≢◌, ◌<◌, ℕ, List, Some, slice_get}
use Rattle.heap_model.specs.Lists.{times}
use Rattle.heap_model.specs.Database.{Entry, a_record, a_resource}
use Rattle.heap_model.specs.Store.{unique_id}
use Rattle.heap_model.specs.EntrySteps.{OfEntry}

-- the entry is a resource, which has no ID, or has an ID above 0 that is not in the list
abbrev pub HasNewId : List ℕ → Entry ℕ → Type 0
HasNewId ids (a_record attributes id slot) = (0 < id) × (times id ids ≡ 0)
HasNewId ids (a_resource kind id slot) = Unit {0}

-- the entry, which goes to an index, is a resource, or has an ID above 0 that no entry at another
-- index has
abbrev pub HasOwnId : List (Entry ℕ) → ℕ → Entry ℕ → Type 0
HasOwnId entries index (a_record attributes id slot) = (0 < id) × ((other : ℕ) × (other ≢ index) × OfEntry (slice_get entries other) (λ entry. unique_id entry ≡ Some id) → ⊥)
HasOwnId entries index (a_resource kind id slot) = Unit {0}
