-- The database of a chunk, with its entries edited and its modification number raised.
use Rattle.std.specs.Prelude.{◌≡◌, ◌+◌, ℕ, Bool, true, false, List, length}
use Rattle.std.specs.List.{remove}
use Rattle.heap_model.specs.Chunk.{need}
use Rattle.heap_model.specs.Space.{ShortFor}
use Rattle.heap_model.specs.Lists.{moved}
use Rattle.heap_model.specs.DatabaseFields.{entry_size}
use Rattle.heap_model.specs.Database.{Entry, Database, has_resources}
use Rattle.heap_model.specs.Store.{bytes_under}
use Rattle.heap_model.specs.DatabaseSteps.{with_info_block}
use Rattle.heap_model.specs.declared.names.Which.{Which}
use Rattle.heap_model.specs.EntrySteps.{with_entry_at, raised_header}
use Rattle.heap_model.specs.Leaving.{Respells, database_here}
use Rattle.db_format.specs.Entries.{with_entry}

-- The chunk under the slot spells the database that it spelled, with this change. All other chunks
-- are as they were.
abbrev pub Changes : List ℕ → List ℕ → ℕ → (Database ℕ → Database ℕ) → Type 0
Changes old new db change = Respells old new db (change (database_here old db))

-- a database with one more call counted in its modification number
abbrev pub counted : Database ℕ → Database ℕ
counted database = record database { header = raised_header database.header }

-- a database with one more call counted, if `true`; otherwise as it is
abbrev pub counted_if : Bool → Database ℕ → Database ℕ
counted_if true database = counted database
counted_if false database = database

-- a database with another info block, and a call counted
abbrev pub with_block : Which → ℕ → Database ℕ → Database ℕ
with_block which slot database = counted (with_info_block which slot database)

-- an entry is inserted at an index, and the call is counted
abbrev pub entry_inserted : ℕ → Entry ℕ → Database ℕ → Database ℕ
entry_inserted index entry database = counted (with_entry_at index entry database)

-- the entry at an index is removed, and the call is counted
abbrev pub entry_removed : ℕ → Database ℕ → Database ℕ
entry_removed index database = counted (record database { entries = remove database.entries index })

-- the entry at `from` moves before the one at `to`, or after the last
abbrev pub with_moved : ℕ → ℕ → Database ℕ → Database ℕ
with_moved from to database = record database { entries = moved database.entries from to }

-- the entry at `from` moves before the one at `to`, or after the last, and the call is counted
abbrev pub entry_moved : ℕ → ℕ → Database ℕ → Database ℕ
entry_moved from to database = counted (with_moved from to database)

-- an entry replaces the one at an index, and the call is counted if `counts` is true
abbrev pub entry_written : Bool → ℕ → Entry ℕ → Database ℕ → Database ℕ
entry_written counts index entry database = counted_if counts (with_entry database index entry)

-- `resources` is whether the database under the slot has resources; otherwise it has records
abbrev pub HasKindHere : List ℕ → ℕ → Bool → Type 0
HasKindHere image db resources = resources ≡ has_resources (database_here image db).header.attributes

-- there is no room to make the chunk under the slot longer by the bytes of one entry
abbrev pub HasNoRoomForEntry : List ℕ → ℕ → Bool → Type 0
HasNoRoomForEntry image db resources = ShortFor image db (need (length (bytes_under image db) + entry_size resources))
