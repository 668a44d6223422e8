-- Searches in a list of entries.
use Rattle.std.specs.Prelude.{◌≤◌, ℕ, List, slice_get}
use Rattle.heap_model.specs.Lists.{Least}
use Rattle.heap_model.specs.Database.{Entry}
use Rattle.heap_model.specs.EntrySteps.{OfEntry}

-- this is the first index, from an index on, whose entry satisfies the predicate
abbrev pub IsFirst : List (Entry ℕ) → ℕ → (Entry ℕ → Type 0) → ℕ → Type 0
IsFirst entries from P index = Least (λ at. (from ≤ at) × OfEntry (slice_get entries at) P) index

-- from an index on, no entry satisfies the predicate
abbrev pub NoneBehind : List (Entry ℕ) → ℕ → (Entry ℕ → Type 0) → Type 0
NoneBehind entries from P = (index : ℕ) → from ≤ index → OfEntry (slice_get entries index) P → ⊥

-- some entry satisfies the predicate
abbrev pub SomeHas : List (Entry ℕ) → (Entry ℕ → Type 0) → Type 0
SomeHas entries P = (index : ℕ) × OfEntry (slice_get entries index) P
