-- The database that is read from a file, by the IDs that its records get.
use Rattle.std.specs.Prelude.{◌≡◌, ◌<◌, ◌≤◌, ◌+◌, ℕ, false, List, length, slice_index, slice_index_or, Option, None, All}
use Rattle.heap_model.specs.Lists.{numbered}
use Rattle.heap_model.specs.UniqueIds.{greatest_id, with_seed}
use Rattle.heap_model.specs.Database.{DatabaseHeader, Database, Entry, a_record, a_resource, header_in, resources_in, entry_count_in, entry_in}
use Rattle.heap_model.specs.Files.{idle_attributes, blocks_in}

-- the header, with the seed that was given last
abbrev pub header_read : List ℕ → ℕ → DatabaseHeader
header_read file seed = record (header_in file) { seed = with_seed (header_in file).seed seed }

-- an entry, with this ID if it is a record, and with this block as its data
abbrev pub entry_read : Entry ℕ → ℕ → Option (List ℕ) → Entry (Option (List ℕ))
entry_read (a_record attributes id at) given block = a_record (idle_attributes attributes) given block
entry_read (a_resource kind id at) given block = a_resource kind id block

-- the entry at an index, if these are the IDs of all records
abbrev pub entry_read_at : List ℕ → List ℕ → ℕ → Entry (Option (List ℕ))
entry_read_at file ids index = entry_read (entry_in file index) (slice_index ids index) (slice_index_or (blocks_in file) (2 + index) None)

-- the entries, if these are the IDs of all records
abbrev pub entries_read : List ℕ → List ℕ → List (Entry (Option (List ℕ)))
entries_read file ids = numbered (entry_read_at file ids) (entry_count_in file)

-- the database, if these are the IDs of all records and this is the seed that was given last
unfoldable pub database_read : List ℕ → List ℕ → ℕ → Database (Option (List ℕ))
database_read file ids seed = record {
  header = header_read file seed;
  app_info = slice_index_or (blocks_in file) 0 None;
  sort_info = slice_index_or (blocks_in file) 1 None;
  entries = entries_read file ids;
}

-- these can be the IDs of the records of a file: one for each record, from 1 to the greatest ID
pub record HasIdsFor (file ids : List ℕ) : Type 0 where
  pub count : resources_in file ≡ false → length ids ≡ entry_count_in file
  pub fit : All (λ id. (0 < id) × (id ≤ greatest_id)) ids
