-- The info blocks of the database that an image has under a number.
use Rattle.std.specs.Prelude.{ℕ, List, [], ◌∷◌}
use Rattle.heap_model.specs.Store.{store_of}
use Rattle.heap_model.specs.Refusals.{Check}
use Rattle.heap_model.specs.StoreWords.{no_database, read_only}
use Rattle.heap_model.specs.DatabaseSteps.{info_block_under}
use Rattle.heap_model.specs.declared.names.Db.{Db}
use Rattle.heap_model.specs.declared.names.Which.{Which}

-- the name of an info block, or 0 if there is none
abbrev pub block_of_image : List ℕ → Db → Which → ℕ
block_of_image image db which = info_block_under (store_of image) db which

-- the first checks of the calls that change the info blocks of a database
abbrev pub writing_checks : List ℕ → Db → List Check
writing_checks image db = no_database (store_of image) db ∷ read_only (store_of image) db ∷ []
