-- A database that was found, as it is in an image.
use Rattle.std.specs.Prelude.{◌≡◌, ◌≤◌, ℕ, List, length}
use Rattle.heap_model.specs.DatabaseFields.{header_size}
use Rattle.heap_model.specs.Store.{bytes_under}
use Rattle.heap_model.specs.Leaving.{SpellsHere, database_here}
use Rattle.mem_manager.specs.Lookup.{StandsAs}
use Rattle.database_edits.specs.Managers.{IsManagers}
use Rattle.database_edits.specs.declared.opened.OpenDatabase.{OpenDatabase}

-- the chunk is as it was found, and spells a database with as many entries as were counted
pub record IsOpenHere (image : List ℕ) (opened : OpenDatabase) : Type 0 where
  pub stands : StandsAs image opened.db.0 opened.chunk
  pub spells : SpellsHere image opened.db.0
  pub count : opened.entry_count ≡ length (database_here image opened.db.0).entries

-- The manager's chunk is as it was found, and has room for a header, whatever its bytes.
pub record HasHeaderRoom (image : List ℕ) (opened : OpenDatabase) : Type 0 where
  pub stands : StandsAs image opened.db.0 opened.chunk
  pub managers : IsManagers image opened.db.0
  pub inside : header_size ≤ length (bytes_under image opened.db.0)
