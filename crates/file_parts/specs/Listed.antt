-- A database that was read from its text.
use Rattle.std.specs.Prelude.{◌≤◌, ℕ, Bool, List, length, map, Option, All}
use Rattle.heap_model.specs.Database.{Database, Entry, entry_with, has_resources, HeaderFits, IsDatabaseName}
use Rattle.db_format.specs.EitherEntry.{entry_of}
use Rattle.db_format.specs.Headers.{header_values}
use Rattle.pdb_format.specs.Writable.{IsWritableEntry}
use Rattle.file_parts.specs.declared.entries.ListedEntry.{ListedEntry}
use Rattle.file_parts.specs.declared.listed.Listed.{Listed}

-- an entry, with the name of its part instead of its data
abbrev pub entry_listed : ListedEntry → Entry (Option (List ℕ))
entry_listed listed = entry_with (λ _. listed.part) (entry_of listed.entry)

abbrev pub entries_listed : List ListedEntry → List (Entry (Option (List ℕ)))
entries_listed listed = map entry_listed listed

-- the database, with names of parts instead of data
abbrev pub database_listed : Listed → Database (Option (List ℕ))
database_listed listed = record {
  header = header_values listed.header;
  app_info = listed.infos.app;
  sort_info = listed.infos.sort;
  entries = entries_listed listed.entries.items;
}

-- the entry is of the kind, and has data unless it is a deleted record
abbrev pub IsGoodEntry : Bool → ListedEntry → Type 0
IsGoodEntry resources listed = IsWritableEntry resources (entry_listed listed)

-- Each entry is good, there are at most 65,535, and the header has a name and numbers that fit
-- their fields.
pub record IsListed (listed : Listed) : Type 0 where
  pub name : IsDatabaseName listed.header.name
  pub header : HeaderFits (header_values listed.header)
  pub few : length listed.entries.items ≤ 65535
  pub good : All (IsGoodEntry (has_resources listed.header.attributes)) listed.entries.items
