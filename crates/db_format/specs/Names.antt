-- The field of a name.
use Rattle.std.specs.Prelude.{◌≡◌, ℕ, List}
use Rattle.heap_model.specs.Database.{name_field, IsDatabaseName, name_in}

-- these bytes are exactly the field of a database's name: the name, and then zeros
pub record IsNameField (bytes : List ℕ) : Type 0 where
  pub name : IsDatabaseName (name_in bytes)
  pub field : bytes ≡ name_field (name_in bytes)
