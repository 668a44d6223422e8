-- Ranges of IDs that no record has.
use Rattle.std.specs.Prelude.{◌≡◌, ◌<◌, ◌≤◌, ◌+◌, ◌⊎◌, ◌↔◌, ℕ, List}
use Rattle.heap_model.specs.Lists.{times}
use Rattle.heap_model.specs.UniqueIds.{greatest_id}
use Rattle.fresh_ids.specs.declared.stretch.FreeIds.{FreeIds}

-- an ID is in the range
abbrev pub IsInRange : FreeIds → ℕ → Type 0
IsInRange free id = (free.first ≤ id) × (id < free.end)

-- no record has an ID of the range
abbrev pub AreFree : List ℕ → FreeIds → Type 0
AreFree ids free = (id : ℕ) → IsInRange free id → times id ids ≡ 0

-- The end is the least of the records' IDs that is not below the first, or the number after the
-- greatest ID if there is none.
pub record IsEndOfFree (ids : List ℕ) (first end : ℕ) : Type 0 where
  pub from : first ≤ end
  pub free : AreFree ids (record { first = first; end = end })
  pub ends : (0 < times end ids) ⊎ (end ≡ greatest_id + 1)

-- The range ends where the known one does, or as far after its first ID as it can.
abbrev pub EndAsFar : List ℕ → FreeIds → FreeIds → Type 0
EndAsFar ids known free = (free.end ≡ known.end) ⊎ IsEndOfFree ids free.first free.end

-- The same range if the ID isn't in it. Otherwise the IDs of the range after it.
pub record IsWithout (old : FreeIds) (id : ℕ) (new : FreeIds) : Type 0 where
  pub apart : (IsInRange old id → ⊥) → new ≡ old
  pub behind : IsInRange old id → (other : ℕ) → (IsInRange new other ↔ (IsInRange old other × (id < other)))
