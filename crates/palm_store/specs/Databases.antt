-- The databases of an image, by their numbers.
use Rattle.std.specs.Prelude.{◌≡◌, ◌≢◌, ◌<◌, ℕ, List, length, slice_index, Some, IsSome}
use Rattle.heap_model.specs.Database.{Database, name_in, data_in, database_in}
use Rattle.heap_model.specs.Store.{bytes_under, listed, store_of}
use Rattle.heap_model.specs.StoreWords.{with_number}

-- a database of the store that the image means has this number
abbrev pub HasNumber : List ℕ → ℕ → Type 0
HasNumber image db = IsSome (with_number (store_of image) db)

-- the database of this number in the store that the image means
abbrev pub HasDatabase : List ℕ → ℕ → Database ℕ → Type 0
HasDatabase image db database = with_number (store_of image) db ≡ Some (record { db = db; database = database })

-- the directory has this number at this index
pub record IsListedAt (image : List ℕ) (db index : ℕ) : Type 0 where
  pub inside : index < length (listed image)
  pub there : slice_index (listed image) index ≡ db

-- the name in the header of a database
abbrev pub name_under : List ℕ → ℕ → List ℕ
name_under image db = name_in (bytes_under image db)

-- a database of another number than this one has this name
pub record HasOtherName (image : List ℕ) (db : ℕ) (name : List ℕ) (other : ℕ) : Type 0 where
  pub number : HasNumber image other
  pub apart : other ≢ db
  pub named : name_under image other ≡ name

-- the slots in the header and the entries of the database under a number, those of the info blocks
-- first
abbrev pub named_under : List ℕ → ℕ → List ℕ
named_under image db = data_in (database_in (bytes_under image db))
