-- The fields of a header that edits need.
use Rattle.std.specs.Prelude.{◌≡◌, ℕ}
use Rattle.heap_model.specs.Database.{Database, has_resources}
use Rattle.database_edits.specs.declared.headers.Heading.{Heading}

-- `heading` has the fields of the header of the database
pub record IsHeading (heading : Heading) (database : Database ℕ) : Type 0 where
  pub kind : heading.resources ≡ has_resources database.header.attributes
  pub modification_number : heading.modification_number ≡ database.header.modification_number
  pub seed : heading.seed ≡ database.header.seed
