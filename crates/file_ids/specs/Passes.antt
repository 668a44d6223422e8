-- The two passes over the records of a file: the IDs that are kept, and the fresh ones between
-- them.
use Rattle.std.specs.Prelude.{◌≡◌, ◌≢◌, ◌<◌, ◌+◌, ◌⊎◌, ◌↔◌, if◌then◌else◌, ℕ, List, [], ◌∷◌, length}
use Rattle.heap_model.specs.Lists.{times}
use Rattle.heap_model.specs.UniqueIds.{greatest_id, IsFresh}
use Rattle.heap_model.specs.Files.{keeps_id}
use Rattle.bit_sets.specs.Sets.{IsInSet}

-- The set has exactly these IDs. It may have 0, which is no ID.
pub record HasIds (set ids : List ℕ) : Type 0 where
  pub are : (id : ℕ) → 0 < id → (IsInSet set id ↔ (0 < times id ids))

-- the set has room for `count` more IDs, and one ID is still free after them
pub record HasRoomFor (set : List ℕ) (count : ℕ) : Type 0 where
  pub ids : List ℕ
  pub has : HasIds set ids
  pub few : length ids + count < greatest_id

-- for each of these IDs, after the earlier ones: the same ID if its record keeps it, or else 0
abbrev pub kept_or_none : List ℕ → List ℕ → List ℕ
kept_or_none earlier [] = []
kept_or_none earlier (id ∷ ids) = (if keeps_id earlier id then id else 0) ∷ kept_or_none (id ∷ earlier) ids

-- Each 0 is replaced with a fresh ID, which isn't among the taken ones. It is then taken, and is
-- the seed of the next one. The other IDs stay.
abbrev pub ZerosGetFresh : List ℕ → ℕ → List ℕ → List ℕ → ℕ → Type 0
ZerosGetFresh taken seed [] [] last_seed = last_seed ≡ seed
ZerosGetFresh taken seed [] (one ∷ given) last_seed = ⊥
ZerosGetFresh taken seed (id ∷ ids) [] last_seed = ⊥
ZerosGetFresh taken seed (id ∷ ids) (one ∷ given) last_seed =
    ((id ≢ 0) × (one ≡ id) × ZerosGetFresh taken seed ids given last_seed)
    ⊎ ((id ≡ 0) × IsFresh taken seed one × ZerosGetFresh (one ∷ taken) one ids given last_seed)
