-- The statements of the laws: texts are read back, and files are put together again.
use Rattle.std.specs.Prelude.{◌≡◌, ◌≢◌, ◌≤◌, ◌<◌, ◌^◌, ⊤, ℕ, Bool, true, false, List, length, map, Option, Some, None, Ok, All}
use Rattle.heap_model.specs.Bytes.{AreBytes}
use Rattle.heap_model.specs.Database.{Database, Entry, a_record, a_resource, HeaderFits, data_in, has_resources, is_deleted}
use Rattle.heap_model.specs.Files.{Reads, block_bytes, file_of}
use Rattle.pdb_format.specs.Writable.{IsReadBack}
use Rattle.canonical_file.specs.Canonical.{IsCanonical}
use Rattle.file_parts.specs.Texts.{database_text, with_names}
use Rattle.file_parts.specs.Words.{is_name, spelled_part}
use Rattle.file_parts.specs.Reading.{read_database}
use Rattle.file_parts.specs.Packing.{with_parts}

-- the name is a word that spells the part with this name, and not `none`
abbrev pub IsPartName : Option (List ℕ) → Type 0
IsPartName None = ⊤
IsPartName (Some name) = spelled_part name ≡ Some (Some name)

-- the entry is of the kind, its numbers fit their fields, and it has a part unless it is a deleted
-- record
abbrev pub IsNamedEntry : Bool → Entry (Option (List ℕ)) → Type 0
IsNamedEntry false (a_record attributes id part) = (attributes < 2 ^ 8) × (id < 2 ^ 24) × IsPartName part × (part ≡ None → is_deleted attributes ≡ true)
IsNamedEntry false (a_resource kind id part) = ⊥
IsNamedEntry true (a_record attributes id part) = ⊥
IsNamedEntry true (a_resource kind id part) = (kind < 2 ^ 32) × (id < 2 ^ 16) × IsPartName part × (part ≢ None)

-- the database has a text: it has a valid name, and names of parts instead of data
pub record HasText (database : Database (Option (List ℕ))) : Type 0 where
  pub name : is_name database.header.name ≡ true
  pub bytes : AreBytes database.header.name
  pub header : HeaderFits database.header
  pub app_info : IsPartName database.app_info
  pub sort_info : IsPartName database.sort_info
  pub entries : All (IsNamedEntry (has_resources database.header.attributes)) database.entries
  pub few : length database.entries ≤ 65535

-- its text is read as this database
abbrev pub TextsAreRead : Type 0
TextsAreRead = (database : Database (Option (List ℕ))) → HasText database → read_database (database_text database) ≡ Ok database

-- ---- a file that is taken apart

-- The text of the database, with the names of its parts, is read back. With the parts as data it
-- gives the database again. The file that is put together from them is read as the database again,
-- and is its own canonical form.
pub record PacksBack (database : Database (Option (List ℕ))) : Type 0 where
  pub text : read_database (database_text (with_names database)) ≡ Ok (with_names database)
  pub parts : with_parts (map block_bytes (data_in database)) (with_names database) ≡ database
  pub again : Reads (file_of database) database
  pub file : (bytes : List ℕ) → IsCanonical (file_of database) bytes → bytes ≡ file_of database

-- ---- a file that is put together

-- The file is read as the database of its parts, with the differences of `IsReadBack`. Each record
-- with the ID 0, or with the ID of an earlier record, gets a free ID, and the seed moves along. No
-- record is busy. So the file is taken apart into this database.
pub record UnpacksBack (database : Database (Option (List ℕ))) (bytes : List ℕ) : Type 0 where
  pub read : Database (Option (List ℕ))
  pub reads : Reads bytes read
  pub back : IsReadBack database read

-- the file is the canonical form of the database's file, and is read as the database of its parts
pub record IsCanonicallyPacked (database : Database (Option (List ℕ))) (bytes : List ℕ) : Type 0 where
  pub canonical : IsCanonical (file_of database) bytes
  pub unpacks : UnpacksBack database bytes
