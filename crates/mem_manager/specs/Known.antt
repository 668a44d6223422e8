-- Names that are remembered, each in an entry of its own.
use Rattle.std.specs.Prelude.{◌≡◌, ◌≢◌, ◌<◌, ◌/◌, ◌%◌, ℕ, List, slice_index, IsSome}
use Rattle.heap_model.specs.Reading.{held}

-- the entry of a name
abbrev pub entry_of_name : ℕ → ℕ
entry_of_name name = name / 8 % 64

-- a name is remembered; 0 is never a name
pub record IsKnown (names : List ℕ) (name : ℕ) : Type 0 where
  pub some : 0 < name
  pub there : slice_index names (entry_of_name name) ≡ name

-- each name that is remembered has a chunk
abbrev pub KnowsHeld : List ℕ → List ℕ → Type 0
KnowsHeld image names = (name : ℕ) → IsKnown names name → IsSome (held image name)

-- The entry of a name now contains it. Only the name that was there before is forgotten.
pub record Remembers (old new : List ℕ) (name : ℕ) : Type 0 where
  pub this : slice_index new (entry_of_name name) ≡ name
  pub others : (other : ℕ) → entry_of_name other ≢ entry_of_name name → slice_index new (entry_of_name other) ≡ slice_index old (entry_of_name other)
