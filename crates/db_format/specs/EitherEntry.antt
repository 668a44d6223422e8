-- Entries of either kind, as entries of a database.
use Rattle.std.specs.Prelude.{◌≤◌, ⊤, ℕ, Bool, true, false}
use Rattle.heap_model.specs.Database.{Entry}
use Rattle.heap_model.specs.UniqueIds.{greatest_id}
use Rattle.db_format.specs.declared.db_entry.DbEntry.{DbEntry}
use Rattle.db_format.specs.declared.db_entry.DbEntry.TheVariants.{Record, Resource}
use Rattle.db_format.specs.Entries.{record_of, resource_of}

abbrev pub entry_of : DbEntry → Entry ℕ
entry_of (Record entry) = record_of entry
entry_of (Resource entry) = resource_of entry

abbrev pub is_resource : DbEntry → Bool
is_resource (Record entry) = false
is_resource (Resource entry) = true

-- a record's ID fits its field
abbrev pub HasFittingId : DbEntry → Type 0
HasFittingId (Record entry) = entry.id ≤ greatest_id
HasFittingId (Resource entry) = ⊤
