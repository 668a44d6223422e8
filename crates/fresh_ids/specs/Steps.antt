-- The steps from a seed to the IDs of records, and to the first free ID.
use Rattle.std.specs.Prelude.{◌≡◌, ◌<◌, ◌*◌, ◌≤◌, ◌+◌, ◌⊎◌, ◌↔◌, ℕ, List, length, Some}
use Rattle.heap_model.specs.Lists.{Least, times}
use Rattle.heap_model.specs.Database.{entry_in, database_in}
use Rattle.heap_model.specs.Store.{unique_id, unique_ids}
use Rattle.heap_model.specs.UniqueIds.{greatest_id, id_behind}
use Rattle.bit_sets.specs.Sets.{IsInSet}

-- one of the records before an index has the ID that is `steps` steps after the seed
abbrev pub IsTakenBefore : List ℕ → ℕ → ℕ → ℕ → Type 0
IsTakenBefore body seed index steps = (earlier : ℕ) × (earlier < index) × (unique_id (entry_in body earlier) ≡ Some (id_behind seed steps))

-- The set has exactly the steps from the seed to the IDs of the records before an index. Steps
-- beyond its room are left out.
pub record HasTaken (body : List ℕ) (seed : ℕ) (taken : List ℕ) (index : ℕ) : Type 0 where
  pub are : (steps : ℕ) → steps < 8 * length taken → (IsInSet taken steps ↔ IsTakenBefore body seed index steps)

-- no record has the ID that is `steps` steps after the seed
abbrev pub IsFreeStep : List ℕ → ℕ → ℕ → Type 0
IsFreeStep body seed steps = times (id_behind seed steps) (unique_ids (database_in body)) ≡ 0

-- the first ID that no record has is `steps` steps after the seed
abbrev pub IsFirstFree : List ℕ → ℕ → ℕ → Type 0
IsFirstFree body seed steps = Least (IsFreeStep body seed) steps

-- No record before an index has an ID from the first on, below the end. The end is the ID of one of
-- those records, or the number after the greatest ID.
pub record IsEndBefore (body : List ℕ) (first index end : ℕ) : Type 0 where
  pub from : first ≤ end
  pub free : (id earlier : ℕ) → first ≤ id → id < end → earlier < index → unique_id (entry_in body earlier) ≡ Some id → ⊥
  pub ends : ((earlier : ℕ) × (earlier < index) × (unique_id (entry_in body earlier) ≡ Some end)) ⊎ (end ≡ greatest_id + 1)
