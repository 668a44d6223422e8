-- A database that is open in a store, as it is in the image.
use Rattle.std.specs.Prelude.{◌≡◌, ℕ, List, length}
use Rattle.mem_manager.specs.Lookup.{StandsAs}
use Rattle.database_edits.specs.declared.opened.OpenDatabase.{OpenDatabase}
use Rattle.palm_store.specs.Databases.{HasNumber}
use Rattle.palm_store.specs.EntryCalls.{entries_of_image}

-- The store has a database of the number. Its chunk is as it was found, and the count is that of
-- its entries.
pub record IsOpened (image : List ℕ) (opened : OpenDatabase) : Type 0 where
  pub number : HasNumber image opened.db.0
  pub chunk : StandsAs image opened.db.0 opened.chunk
  pub count : opened.entry_count ≡ length (entries_of_image image opened.db)
