-- The records of a database, with the attributes of all of them changed.
use Rattle.std.specs.Prelude.{ℕ, map}
use Rattle.heap_model.specs.Database.{Database}
use Rattle.heap_model.specs.EntrySteps.{with_attributes}

-- a database with the attributes of each record replaced by what `change` makes of them
abbrev pub attributes_changed : (ℕ → ℕ) → Database ℕ → Database ℕ
attributes_changed change database = record database { entries = map (with_attributes change) database.entries }
