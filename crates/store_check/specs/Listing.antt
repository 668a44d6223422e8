-- The databases of an image by their indexes in the directory.
use Rattle.std.specs.Prelude.{◌≡◌, ◌≤◌, ◌<◌, ◌*◌, ◌/◌, ℕ, List, Some, length, take, map, slice_get}
use Rattle.heap_model.specs.Bytes.{u32_at}
use Rattle.heap_model.specs.Heap.{HeapAccepted}
use Rattle.heap_model.specs.Lists.{numbered}
use Rattle.heap_model.specs.Database.{Entry, entry_data, entry_in, entry_count_in}
use Rattle.heap_model.specs.Store.{bytes_under, directory_bytes, most_databases, IsHeaderSlot, listed_size}
use Rattle.db_format.specs.Headers.{AreWholeBytes}
use Rattle.store_check.specs.declared.lookup.Body.{Body}
use Rattle.store_check.specs.Lookup.{HasBody}

-- the directory's word with an index: the slot of a header, if the word is valid
abbrev pub listed_at : List ℕ → ℕ → ℕ
listed_at image index = u32_at (directory_bytes image) (listed_size * index)

-- how many databases are listed
abbrev pub listed_count : List ℕ → ℕ
listed_count image = length (directory_bytes image) / listed_size

-- the bytes of the header of the database with an index, and of its entries
unfoldable pub header_at : List ℕ → ℕ → List ℕ
header_at image db = bytes_under image (listed_at image db)

-- the entries that are read from the bytes of a header
abbrev pub entries_spelled : List ℕ → List (Entry ℕ)
entries_spelled bytes = numbered (entry_in bytes) (entry_count_in bytes)

-- the slots of their data
abbrev pub entry_slots : List ℕ → List ℕ
entry_slots bytes = map entry_data (entries_spelled bytes)

-- These are the bytes of the directory in an accepted heap, and each of its words is valid. This is
-- known if no slot of the directory is bad.
pub record IsGoodDirectory (image directory : List ℕ) : Type 0 where
  pub heap : HeapAccepted image
  pub bytes : directory ≡ directory_bytes image
  pub count : length directory / listed_size ≡ listed_count image
  pub few : length directory / listed_size ≤ most_databases
  pub headers : (db : ℕ) → db < listed_count image → IsHeaderSlot image (listed_at image db)

-- These are the headers that an accepted heap lists, each by its place and length in the image.
-- This is known after each was found.
pub record AreListed (image : List ℕ) (headers : List Body) : Type 0 where
  pub heap : HeapAccepted image
  pub count : length headers ≡ listed_count image
  pub few : length headers ≤ most_databases
  pub each : (db : ℕ) (header : Body) → slice_get headers db ≡ Some header → HasBody image (listed_at image db) header

-- a prefix of the table has the headers that are listed
abbrev pub NotesListed : List ℕ → List Body → Type 0
NotesListed image table = AreListed image (take (listed_count image) table)

-- each database that is listed has a whole header with its entries: this is known if no header is
-- bad
pub record HaveHeaders (image : List ℕ) : Type 0 where
  pub whole : (db : ℕ) → db < listed_count image → AreWholeBytes (header_at image db)
