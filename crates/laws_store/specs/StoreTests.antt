-- The tests that decide whether an image is accepted with its databases: one for each part of the
-- definition in `Store`. They apply to every list of bytes.
use Rattle.std.specs.Prelude.{◌%◌, ◌^◌, ◌==◌, ◌&&◌, ◌||◌, ◌++◌, not, nat_le, nat_lt, ℕ, Bool, true, false, List, [], ◌∷◌, length}
use Rattle.std.specs.List.{list_all, list_any}
use Rattle.std.specs.Str.{bytes_eq}
use Rattle.heap_model.specs.Chunk.{managers_owner, data_owner}
use Rattle.heap_model.specs.Slots.{slots_of}
use Rattle.heap_model.specs.Heap.{directory_of}
use Rattle.heap_model.specs.Reading.{is_accepted}
use Rattle.heap_model.specs.DatabaseFields.{name_size}
use Rattle.heap_model.specs.Database.{DatabaseHeader, Entry, a_record, a_resource, Database, has_resources, is_deleted, spelled}
use Rattle.heap_model.specs.Lists.{times}
use Rattle.heap_model.specs.Store.{StoredDatabase, bytes_under, owner_under, directory_bytes, listed, databases, named_by, most_databases, unique_ids, names_of, listed_size}

-- no element of the list is the same as one after it
abbrev pub are_distinct : {X : Type 0} → (X → X → Bool) → List X → Bool
are_distinct is_same [] = true
are_distinct is_same (x ∷ xs) = list_all (λ other. not (is_same x other)) xs && are_distinct is_same xs

-- ---- one database

abbrev pub is_name : List ℕ → Bool
is_name name = nat_lt 0 (length name) && nat_lt (length name) name_size && list_all (λ byte. nat_lt 0 byte) name

abbrev pub header_fits : DatabaseHeader → Bool
header_fits header =
    list_all (λ number. nat_lt number (2 ^ 16)) (header.attributes ∷ header.version ∷ [])
    && list_all (λ number. nat_lt number (2 ^ 32))
    (header.creation_date ∷ header.modification_date ∷ header.backup_date ∷ header.modification_number ∷ header.kind ∷ header.creator ∷ header.seed ∷ [])

abbrev pub entry_fits : Bool → Entry ℕ → Bool
entry_fits false (a_record attributes id slot) = nat_lt attributes (2 ^ 8) && nat_lt id (2 ^ 24) && nat_lt slot (2 ^ 32)
entry_fits false (a_resource kind id slot) = false
entry_fits true (a_record attributes id slot) = false
entry_fits true (a_resource kind id slot) = nat_lt kind (2 ^ 32) && nat_lt id (2 ^ 16) && nat_lt slot (2 ^ 32)

abbrev pub database_fits : Database ℕ → Bool
database_fits database =
    is_name database.header.name && header_fits database.header && nat_lt database.app_info (2 ^ 32) && nat_lt database.sort_info (2 ^ 32)
    && list_all (entry_fits (has_resources database.header.attributes)) database.entries
    && nat_lt (length database.entries) (2 ^ 16)

abbrev pub is_info_block : List ℕ → ℕ → Bool
is_info_block image slot = (slot == 0) || (owner_under image slot == data_owner)

abbrev pub has_data : List ℕ → Entry ℕ → Bool
has_data image (a_record attributes id slot) = (slot == 0) && is_deleted attributes || (owner_under image slot == data_owner)
has_data image (a_resource kind id slot) = owner_under image slot == data_owner

-- ---- all databases

abbrev pub database_tests : List ℕ → List StoredDatabase → List Bool
database_tests image stored =
    list_all (λ one. database_fits one.database) stored
    ∷ list_all (λ one. bytes_eq (bytes_under image one.db) (spelled one.database)) stored
    ∷ list_all (λ one. is_info_block image one.database.app_info && is_info_block image one.database.sort_info) stored
    ∷ list_all (λ one. list_all (has_data image) one.database.entries) stored
    ∷ list_all (λ one. list_all (λ id. not (id == 0)) (unique_ids one.database)) stored
    ∷ list_all (λ one. are_distinct ◌==◌ (unique_ids one.database)) stored
    ∷ are_distinct bytes_eq (names_of stored)
    ∷ []

-- ---- the directory, and all chunks

abbrev pub is_header_slot : List ℕ → ℕ → Bool
is_header_slot image slot = (owner_under image slot == managers_owner) && not (slot == directory_of image)

abbrev pub directory_tests : List ℕ → List Bool
directory_tests image =
    is_accepted image
    ∷ (length (directory_bytes image) % listed_size == 0)
    ∷ nat_le (length (listed image)) most_databases
    ∷ are_distinct ◌==◌ (listed image)
    ∷ list_all (is_header_slot image) (listed image)
    ∷ []

-- the chunk under a slot is named once by these, if it is one for data
abbrev pub is_named_once : List ℕ → List ℕ → ℕ → Bool
is_named_once image names slot = not (owner_under image slot == data_owner) || (times slot names == 1)

-- the chunk under a slot is the directory or listed there, if it is the manager's
abbrev pub is_listed : List ℕ → List ℕ → ℕ → Bool
is_listed image headers slot = not (owner_under image slot == managers_owner) || ((slot == directory_of image) || list_any (λ header. header == slot) headers)

abbrev pub chunk_tests : List ℕ → List Bool
chunk_tests image =
    list_all (is_named_once image (named_by (databases image))) (slots_of image)
    ∷ list_all (is_listed image (listed image)) (slots_of image)
    ∷ []

-- the parts of the definition in their order, test by test
abbrev pub store_tests : List ℕ → List Bool
store_tests image = directory_tests image ++ (database_tests image (databases image) ++ chunk_tests image)

-- the image is accepted
unfoldable pub is_store : List ℕ → Bool
is_store image = list_all (λ test. test) (store_tests image)
