-- The offsets of the fields of a database's header and of its entries, from the File Format
-- Specification. Nothing else gives these numbers.
use Rattle.std.specs.Prelude.{ℕ, Bool, true, false}

-- ---- the header

-- how many bytes the name takes, at the start: its bytes, and zeros up to the end of the field
abbrev pub name_size : ℕ
name_size = 32

-- the attributes and the version, of two bytes each
abbrev pub attributes_at : ℕ
attributes_at = 32

abbrev pub version_at : ℕ
version_at = 34

-- numbers of four bytes: when the database was made, modified and backed up last, and how often it
-- was modified
abbrev pub creation_date_at : ℕ
creation_date_at = 36

abbrev pub modification_date_at : ℕ
modification_date_at = 40

abbrev pub backup_date_at : ℕ
backup_date_at = 44

abbrev pub modification_number_at : ℕ
modification_number_at = 48

-- where its info blocks are: AppInfo and SortInfo
abbrev pub app_info_at : ℕ
app_info_at = 52

abbrev pub sort_info_at : ℕ
sort_info_at = 56

-- its type, its creator, and the seed of the unique IDs of its records
abbrev pub kind_at : ℕ
kind_at = 60

abbrev pub creator_at : ℕ
creator_at = 64

abbrev pub seed_at : ℕ
seed_at = 68

-- the offset at which the list of entries continues: it continues nowhere, so four bytes of zeros
abbrev pub next_list_at : ℕ
next_list_at = 72

-- the number of entries, of two bytes
abbrev pub entry_count_at : ℕ
entry_count_at = 76

-- how many bytes the header takes: the entries begin after it
abbrev pub header_size : ℕ
header_size = 78

-- ---- the entries

-- how many bytes the entry of a record takes, and that of a resource
abbrev pub record_size : ℕ
record_size = 8

abbrev pub resource_size : ℕ
resource_size = 10

-- In the entry of a record the first four bytes give the place of its data. Its attributes follow,
-- of one byte, and its unique ID, of three.
abbrev pub record_attributes_at : ℕ
record_attributes_at = 4

abbrev pub record_id_at : ℕ
record_id_at = 5

-- In the entry of a resource its type comes first, of four bytes. Its id follows, of two bytes, and
-- then the place of its data, of four.
abbrev pub resource_id_at : ℕ
resource_id_at = 4

abbrev pub resource_data_at : ℕ
resource_data_at = 6

-- how many bytes an entry takes, in a database of resources (`true`) or of records (`false`)
abbrev pub entry_size : Bool → ℕ
entry_size true = resource_size
entry_size false = record_size
