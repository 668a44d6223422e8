-- What `export` makes of an image. Where a definition ends in a `Bool`, it says whether all was written and flushed.
use Rattle.std.specs.Prelude.{◌≡◌, ◌≢◌, ◌<◌, ◌⊎◌, ◌==◌, ◌&&◌, ℕ, Bool, true, false, List, length, map, [], ◌∷◌, take, drop, slice_index_or, Option, Some, None, All}
use Rattle.std.specs.Char.{encode_utf8}
use Rattle.std.specs.List.{AllZip}
use Rattle.std.specs.Str.{bytes_eq}
use Rattle.unicode_text.specs.Windows1252.{character_of}
use Rattle.heap_model.specs.DatabaseFields.{name_size}
use Rattle.heap_model.specs.Database.{has_resources}
use Rattle.heap_model.specs.Files.{file_of}
use Rattle.heap_model.specs.Store.{StoredDatabase, Store, Accepted, content, names_of, store_of}
use Rattle.heap_model.specs.StoreWords.{with_number}
use Rattle.heap_model.specs.declared.refusal.Refusal.TheVariants.{NoSuchDatabase}
use Rattle.palm_text.specs.Output.{IsUnused, Output, PutsTo}
use Rattle.image_commands.specs.FaultLines.{PutsBadImage}
use Rattle.program_io.specs.declared.status.Status.{Status}
use Rattle.program_io.specs.declared.status.Status.TheVariants.{Done, Refused, BadWords, ReadFault, WriteFault, NoMemory}
use Rattle.script_calls.specs.Lines.{refusal_line}
use Rattle.store_commands.specs.FileNames.{file_name}
use Rattle.store_commands.specs.declared.exports.ExportedFile.{ExportedFile}
use Rattle.store_commands.specs.declared.exports.Ended.{Ended}
use Rattle.store_commands.specs.declared.exports.NotNamed.{NotNamed}
use Rattle.store_commands.specs.declared.exports.NotNamed.TheVariants.{Missing, OutOfMemory}

-- The file of a database: its name, and the bytes that the call `export` answers.
abbrev pub file_for : Store → StoredDatabase → ExportedFile
file_for store one = record {
  name = file_name one.database.header.name (has_resources one.database.header.attributes);
  bytes = file_of (content store.map one.database);
}

-- A word of the command line names a database by its bytes. A name has at most 31 bytes, and of a word 32 are looked at.
abbrev pub meant_by : List ℕ → List ℕ
meant_by word = take name_size word

-- a text begins with a character in UTF-8, if there is a character
abbrev pub begins_with_character : Option ℕ → List ℕ → Bool
begins_with_character None text = false
begins_with_character (Some code) text = bytes_eq (take (length (encode_utf8 code)) text) (encode_utf8 code)

-- the text after it
abbrev pub after_character : Option ℕ → List ℕ → List ℕ
after_character None text = text
after_character (Some code) text = drop (length (encode_utf8 code)) text

-- A word spells a name in UTF-8: it has the character of each byte in Windows-1252, in order, and no other.
abbrev pub is_spelled : (name word : List ℕ) → Bool
is_spelled [] word = length word == 0
is_spelled (byte ∷ bytes) word =
    begins_with_character (character_of byte) word && is_spelled bytes (after_character (character_of byte) word)

-- no database has the bytes of the word for its name
abbrev pub HasNoName : Store → List ℕ → Type 0
HasNoName store word = All (λ other. other ≢ meant_by word) (names_of store.databases)

-- the name that a word names: the one with its bytes, or if there is none, the one that it spells in UTF-8
abbrev pub IsNamedBy : Store → List ℕ → List ℕ → Type 0
IsNamedBy store word name = (name ≡ meant_by word) ⊎ (HasNoName store word × (is_spelled name word ≡ true))

-- this is the file of the database that a word names
pub record IsFileNamed (store : Store) (word : List ℕ) (file : ExportedFile) : Type 0 where
  pub one : StoredDatabase
  pub there : with_number store one.db ≡ Some one
  pub named : IsNamedBy store word one.database.header.name
  pub is : file ≡ file_for store one

-- the store has no database that the word names
abbrev pub IsMissing : Store → List ℕ → Type 0
IsMissing store word = HasNoName store word × All (λ other. is_spelled other word ≡ false) (names_of store.databases)

-- These are the files of all databases, in their order, if no word names one; or else those that the words name.
abbrev pub AreExported : Store → List (List ℕ) → List ExportedFile → Type 0
AreExported store words files =
    ((length words ≡ 0) × (files ≡ map (file_for store) store.databases))
    ⊎ ((0 < length words) × AllZip (IsFileNamed store) words files)

-- why there are no files for some words; nothing is said of memory
abbrev pub IsNotNamed : Store → List (List ℕ) → NotNamed → Type 0
IsNotNamed store words (Missing index) = (index < length words) × IsMissing store (slice_index_or words index [])
IsNotNamed store words OutOfMemory = Unit {0}

-- A word names no database, and the line for that refusal was printed.
pub record PutsMissing {V : Type 0} (image : List ℕ) (words : List (List ℕ)) (out : Output V) (word : Option ℕ) (ok : Bool) : Type 0 where
  pub accepted : Accepted image
  pub index : ℕ
  pub inside : index < length words
  pub which : word ≡ Some index
  pub missing : IsMissing (store_of image) (slice_index_or words index [])
  pub told : PutsTo out (refusal_line NoSuchDatabase) ok

abbrev pub PutsNotExported : {V : Type 0} → List ℕ → List (List ℕ) → Output V → Option ℕ → Bool → Type 0
PutsNotExported image words out word ok =
    ((Accepted image → ⊥) × (word ≡ None) × PutsBadImage image out ok)
    ⊎ PutsMissing image words out word ok

-- why no files were made, by the status, and what was written then
abbrev pub NotExportedBy : {V : Type 0} → List ℕ → List (List ℕ) → Output V → Option ℕ → Status → Type 0
NotExportedBy image words out word Refused = PutsNotExported image words out word true
NotExportedBy image words out word WriteFault = PutsNotExported image words out word false
NotExportedBy image words out word NoMemory = (word ≡ None) × IsUnused out
NotExportedBy image words out word Done = ⊥
NotExportedBy image words out word BadWords = ⊥
NotExportedBy image words out word ReadFault = ⊥

abbrev pub NotExported : {V : Type 0} → List ℕ → List (List ℕ) → Output V → Ended → Type 0
NotExported image words out ended = NotExportedBy image words out ended.word ended.status
