-- The entries that are read and written, as entries of a database.
use Rattle.std.specs.Prelude.{◌≡◌, ◌<◌, ℕ, Bool, List, length, slice_set}
use Rattle.heap_model.specs.Bytes.{overwritten}
use Rattle.heap_model.specs.Database.{Database, Entry, a_record, a_resource, has_resources, IsSpelled, entry_offset}
use Rattle.db_format.specs.declared.entries.RecordEntry.{RecordEntry}
use Rattle.db_format.specs.declared.entries.ResourceEntry.{ResourceEntry}

-- the entry of a record, or of a resource, with these values
abbrev pub record_of : RecordEntry → Entry ℕ
record_of entry = a_record entry.attributes.0 entry.id entry.slot

abbrev pub resource_of : ResourceEntry → Entry ℕ
resource_of entry = a_resource entry.kind entry.id entry.slot

-- the database with this entry at an index, instead of its own
abbrev pub with_entry : Database ℕ → ℕ → Entry ℕ → Database ℕ
with_entry database index entry = record database { entries = slice_set database.entries index entry }

-- If these bytes are written over an entry of a database, the database has this entry there, and
-- stays the same otherwise. The database has resources, or else records.
abbrev pub WritesEntry : Bool → Entry ℕ → List ℕ → Type 0
WritesEntry resources entry bytes =
    (database : Database ℕ) (body : List ℕ) (index : ℕ) → IsSpelled database body → has_resources database.header.attributes ≡ resources → index < length database.entries
    → IsSpelled (with_entry database index entry) (overwritten body (entry_offset resources index) bytes)
