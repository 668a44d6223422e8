-- The chunks that belong to databases, by their owners.
use Rattle.std.specs.Prelude.{◌≡◌, ◌⊎◌, ◌↔◌, ℕ, List}
use Rattle.heap_model.specs.Chunk.{managers_owner, data_owner}
use Rattle.heap_model.specs.Store.{owner_under}

-- the owner of chunks of the manager's, or of those for data
abbrev pub IsOurOwner : ℕ → Type 0
IsOurOwner owner = (owner ≡ managers_owner) ⊎ (owner ≡ data_owner)

-- the slot has a chunk of the manager's, or one for data
abbrev pub IsOurs : List ℕ → ℕ → Type 0
IsOurs image slot = IsOurOwner (owner_under image slot)

-- `owner` is the manager's exactly if the owner of the slot's chunk is. The same for the owner of
-- data.
pub record TellsOwner (image : List ℕ) (slot owner : ℕ) : Type 0 where
  pub managers : (owner ≡ managers_owner) ↔ (owner_under image slot ≡ managers_owner)
  pub «data» : (owner ≡ data_owner) ↔ (owner_under image slot ≡ data_owner)
