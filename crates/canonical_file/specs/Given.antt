-- The IDs that the records of a file get, and their properties.
use Rattle.std.specs.Prelude.{◌<◌, ◌≤◌, ℕ, List, All}
use Rattle.heap_model.specs.Lists.{Distinct}
use Rattle.heap_model.specs.UniqueIds.{greatest_id, seed_in}
use Rattle.heap_model.specs.Database.{header_in, database_in}
use Rattle.heap_model.specs.Store.{unique_ids}
use Rattle.heap_model.specs.Files.{HaveIds}

pub record AreGivenIn (file ids : List ℕ) (seed : ℕ) : Type 0 where
  pub have : HaveIds (seed_in (header_in file).seed) (unique_ids (database_in file)) ids seed
  pub fit : All (λ id. (0 < id) × (id ≤ greatest_id)) ids
  pub distinct : Distinct ids
  pub most : seed ≤ greatest_id
