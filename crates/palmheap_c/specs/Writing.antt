-- The file that is put together from values and data of a caller in C.
use Rattle.std.specs.Prelude.{◌≡◌, ◌<◌, ◌≤◌, ◌⊎◌, ◌++◌, ◌&&◌, ◌||◌, not, nat_le, if◌then◌else◌, ℕ, Bool, true, false, List, [], ◌∷◌, length, map, take, drop, slice_index_or, slice_range, Option}
use Rattle.std.specs.List.{list_all}
use Rattle.heap_model.specs.Bytes.{AreBytes}
use Rattle.heap_model.specs.DatabaseFields.{name_size}
use Rattle.heap_model.specs.Database.{Database, DatabaseHeader, Entry, a_record, a_resource, IsDatabaseName, has_resources}
use Rattle.heap_model.specs.Files.{offsets_in}
use Rattle.pdb_format.specs.Filler.{filler_in}
use Rattle.pdb_format.specs.Writable.{IsWritableEntry}
use Rattle.canonical_file.specs.Canonical.{most_bytes}
use Rattle.file_parts.specs.Exact.{ExactFile, IsExactly, IsOrderOf, exact_bytes, exact_size, is_misplaced}
use Rattle.file_parts.specs.ExactTexts.{ExactText, exact_of_parts}
use Rattle.file_parts.specs.Values.{IsNoExactFile, part_if, valued_text}
use Rattle.palmheap_c.specs.Answers.{IsMemoryAnswer, no_file, too_large}
use Rattle.palmheap_c.specs.Buffers.{Buffer, PutsBytes}
use Rattle.palmheap_c.specs.FileEntries.{IsRead, Outputs, place_of_data}
use Rattle.palmheap_c.specs.declared.answers.Answer.{Answer}
use Rattle.palmheap_c.specs.declared.blocks.Block.{Block}
use Rattle.palmheap_c.specs.declared.file_entries.FileEntry.{FileEntry}
use Rattle.palmheap_c.specs.declared.infos.DatabaseInfo.{DatabaseInfo}
use Rattle.palmheap_c.specs.declared.writing.Given as rust

-- ---- what is given

pub record Given : Type 0 where
  pub bytes : List ℕ
  pub header : DatabaseInfo
  pub app : Block
  pub sort : Block
  pub entries : List FileEntry
  pub filler : List ℕ
  pub order : List ℕ

abbrev pub given : List ℕ → DatabaseInfo → (app sort : Block) → List FileEntry → (filler order : List ℕ) → Given
given bytes header app sort entries filler order = record { bytes = bytes; header = header; app = app; sort = sort; entries = entries; filler = filler; order = order }

abbrev pub given_by : rust.Given → Given
given_by it = given it.bytes.now it.header.now it.app it.sort it.entries.now it.filler.now it.order.now

-- ---- the database without its data

abbrev pub name_from_c : DatabaseInfo → List ℕ
name_from_c info = take info.name_length info.name

abbrev pub header_from_c : DatabaseInfo → DatabaseHeader
header_from_c info = record {
  name = name_from_c info;
  attributes = info.attributes;
  version = info.version;
  creation_date = info.creation_date;
  modification_date = info.modification_date;
  backup_date = info.backup_date;
  modification_number = info.modification_number;
  kind = info.kind;
  creator = info.creator;
  seed = info.seed;
}

-- an entry: a record has no type, and a resource no attributes
abbrev pub named_entry : Bool → FileEntry → Entry (Option (List ℕ))
named_entry resources entry =
    if resources then a_resource entry.kind entry.id (part_if entry.has_data) else a_record entry.attributes entry.id (part_if entry.has_data)

-- a database with an entry more
abbrev pub with_named : Database (Option (List ℕ)) → Bool → FileEntry → Database (Option (List ℕ))
with_named database resources entry = record database { entries = database.entries ++ named_entry resources entry ∷ [] }

abbrev pub with_all : Database (Option (List ℕ)) → Bool → List FileEntry → Database (Option (List ℕ))
with_all database resources entries = record database { entries = database.entries ++ map (named_entry resources) entries }

-- the database: its data are only names, of the parts that are there
abbrev pub named_database : Given → Database (Option (List ℕ))
named_database it = record {
  header = header_from_c it.header;
  app_info = part_if it.app.is_there;
  sort_info = part_if it.sort.is_there;
  entries = map (named_entry (has_resources it.header.attributes)) it.entries;
}

-- ---- the data

-- the block is not there, or lies within the first `size` bytes
abbrev pub is_inside : ℕ → Block → Bool
is_inside size block = not block.is_there || (nat_le block.start block.end && nat_le block.end size)

abbrev pub has_data_inside : ℕ → FileEntry → Bool
has_data_inside size entry = is_inside size (place_of_data entry)

-- all blocks that are there lie within the bytes
abbrev pub are_inside : Given → Bool
are_inside it = is_inside (length it.bytes) it.app && (is_inside (length it.bytes) it.sort && list_all (has_data_inside (length it.bytes)) it.entries)

-- the bytes of a block
abbrev pub block_from_c : List ℕ → Block → List ℕ
block_from_c bytes block = if block.is_there then slice_range bytes block.start block.end else []

abbrev pub part_from_c : List ℕ → FileEntry → List ℕ
part_from_c bytes entry = block_from_c bytes (place_of_data entry)

-- the bytes of the blocks by their ranks, and the filler
abbrev pub parts_from_c : Given → List (List ℕ)
parts_from_c it = block_from_c it.bytes it.app ∷ block_from_c it.bytes it.sort ∷ (map (part_from_c it.bytes) it.entries ++ it.filler ∷ [])

-- ---- the file

abbrev pub text_from_c : Given → ExactText
text_from_c it = valued_text (named_database it) (drop it.header.name_length it.header.name) it.order

-- the file as it stands
abbrev pub exact_from_c : Given → ExactFile
exact_from_c it = exact_of_parts (text_from_c it) (parts_from_c it)

-- Each place is inside of the given bytes, and the file is short enough. The bytes are the file, and
-- are read as exactly what is given. If a file is exactly that already, they are that file.
pub record IsFileOf (it : Given) (bytes : List ℕ) : Type 0 where
  pub inside : are_inside it ≡ true
  pub fits : exact_size (exact_from_c it) ≤ most_bytes
  pub spelled : bytes ≡ exact_bytes (exact_from_c it)
  pub exactly : IsExactly bytes (exact_from_c it)
  pub back : (file : List ℕ) → AreBytes file → IsExactly file (exact_from_c it) → bytes ≡ file

-- ---- refusals

-- no file has the entry after so many others
abbrev pub IsRefusedEntry : Bool → ℕ → FileEntry → Type 0
IsRefusedEntry resources count entry = (count ≡ 65535) ⊎ (IsWritableEntry resources (named_entry resources entry) → ⊥)

abbrev pub HasRefusedEntry : Bool → List FileEntry → Type 0
HasRefusedEntry resources entries =
    (index : ℕ) × (entry : FileEntry) × (index < length entries) × (slice_index_or entries index entry ≡ entry) × IsRefusedEntry resources index entry

-- the block at an index of the order has no bytes, and the block after it has a lower rank
abbrev pub HasMisplaced : Given → Type 0
HasMisplaced it = (index : ℕ) × (is_misplaced (exact_from_c it) index ≡ true)

-- no file has these values: the name, an entry, a place, the bytes after the name or the order is bad
abbrev pub IsNoFile : Given → Type 0
IsNoFile it =
    (IsDatabaseName (name_from_c it.header) → ⊥)
    ⊎ (HasRefusedEntry (has_resources it.header.attributes) it.entries
    ⊎ ((are_inside it ≡ false)
    ⊎ (IsNoExactFile (named_database it) (drop it.header.name_length it.header.name) it.order
    ⊎ HasMisplaced it)))

abbrev pub IsWriteRefusal : Given → Answer → Type 0
IsWriteRefusal it found =
    ((found ≡ no_file) × IsNoFile it)
    ⊎ (((found ≡ too_large) × (most_bytes < exact_size (exact_from_c it))) ⊎ IsMemoryAnswer found)

-- The file was written, or the buffer is too short for it. Otherwise it is refused, and nothing was
-- written.
abbrev pub IsWriteAnswer : Given → (old new : Buffer) → Answer → Type 0
IsWriteAnswer it old new found =
    ((bytes : List ℕ) × IsFileOf it bytes × PutsBytes bytes old.bytes new.bytes new.count found)
    ⊎ (IsWriteRefusal it found × (new ≡ old))

-- ---- files that are read and written

-- Given is what `palmheap_pdb_read` read of a file. The places are in that file. The header has all
-- bytes of the name's field, and there is the file's filler. The blocks are in the file's order.
pub record IsReadOf (file : List ℕ) (it : Given) : Type 0 where
  pub old : Outputs
  pub new : Outputs
  pub read : IsRead file old new
  pub bytes : it.bytes ≡ file
  pub header : it.header ≡ record new.header { name = take name_size file }
  pub app : it.app ≡ new.app
  pub sort : it.sort ≡ new.sort
  pub entries : it.entries ≡ take new.count new.entries
  pub filler : it.filler ≡ filler_in file
  pub order : IsOrderOf (offsets_in file) (exact_from_c it).order

-- The same file was written, or the buffer is too short for it. If an allocation failed, nothing was
-- written.
abbrev pub IsWrittenBack : (file : List ℕ) → (old new : Buffer) → Answer → Type 0
IsWrittenBack file old new found =
    PutsBytes file old.bytes new.bytes new.count found ⊎ (IsMemoryAnswer found × (new ≡ old))
