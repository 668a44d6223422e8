-- The heap after a new entry came to a database.
use Rattle.std.specs.Prelude.{◌≡◌, ℕ, List, None}
use Rattle.heap_model.specs.Chunk.{data_owner}
use Rattle.heap_model.specs.Reading.{held}
use Rattle.heap_model.specs.Maps.{made, reowned}
use Rattle.heap_model.specs.Database.{Entry, spelled}
use Rattle.heap_model.specs.Leaving.{Leaves, rewritten, database_here}
use Rattle.database_edits.specs.Edits.{entry_inserted}

-- A chunk of `size` zeros was made for data, under a name that stood for nothing. The database has
-- the entry at an index, and counts one call more. All other chunks are as before.
pub record PutsIn (old new : List ℕ) (db at : ℕ) (entry : Entry ℕ) (name size : ℕ) : Type 0 where
  pub fresh : held old name ≡ None
  pub leaves : Leaves old new (made (rewritten (held old) db (spelled (entry_inserted at entry (database_here old db)))) name size data_owner 0)

-- The database has the entry at an index, and counts one call more. The data of the entry is a
-- chunk that was there, which is one for data now. All other chunks are as before.
abbrev pub TakesIn : List ℕ → List ℕ → ℕ → ℕ → Entry ℕ → ℕ → Type 0
TakesIn old new db at entry name = Leaves old new (reowned (rewritten (held old) db (spelled (entry_inserted at entry (database_here old db)))) name data_owner)
