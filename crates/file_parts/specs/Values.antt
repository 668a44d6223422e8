-- Databases that are listed by values, without a text.
use Rattle.std.specs.Prelude.{◌≡◌, ◌<◌, ◌⊎◌, ◌++◌, if◌then◌else◌, ℕ, Bool, false, List, [], ◌∷◌, length, take, slice_index, codes, Option, Some, None}
use Rattle.heap_model.specs.Database.{Database, DatabaseHeader, Entry, data_in, entry_with, has_resources}
use Rattle.db_format.specs.EitherEntry.{entry_of}
use Rattle.db_format.specs.declared.db_entry.DbEntry.{DbEntry}
use Rattle.pdb_format.specs.Writable.{IsWritableEntry}
use Rattle.file_parts.specs.ExactReading.{ExactHead, is_after_name}
use Rattle.file_parts.specs.ExactTexts.{ExactText, is_other}
use Rattle.file_parts.specs.declared.exact_lines.OrderLine.{OrderLine}

-- the name of each part
abbrev pub any_part_name : List ℕ
any_part_name = codes "part"

-- the name of a part, if it is there
abbrev pub part_if : Bool → Option (List ℕ)
part_if is_there = if is_there then Some any_part_name else None

-- an entry with these values
abbrev pub valued : DbEntry → Bool → Entry (Option (List ℕ))
valued entry has_data = entry_with (λ _. part_if has_data) (entry_of entry)

-- a database without entries
abbrev pub without_entries : DatabaseHeader → (app sort : Bool) → Database (Option (List ℕ))
without_entries header app sort = record { header = header; app_info = part_if app; sort_info = part_if sort; entries = [] }

-- a database with an entry more
abbrev pub with_next_entry : Database (Option (List ℕ)) → DbEntry → Bool → Database (Option (List ℕ))
with_next_entry database entry has_data = record database { entries = database.entries ++ valued entry has_data ∷ [] }

-- no file has this entry after those of a database
abbrev pub IsNoEntryAfter : Database (Option (List ℕ)) → DbEntry → Bool → Type 0
IsNoEntryAfter database entry has_data =
    (length database.entries ≡ 65535)
    ⊎ (IsWritableEntry (has_resources database.header.attributes) (valued entry has_data) → ⊥)

-- ---- exact files

-- the lines of an exact file with these bytes after its name, and with a filler
abbrev pub valued_head : (after_name : List ℕ) → List OrderLine → ExactHead
valued_head after_name order = record { after_name = Some (record { bytes = after_name; line = 0 }); filler = Some any_part_name; order = order }

-- the exact file: a database, the bytes after its name, a filler, and the ranks of the first blocks
abbrev pub valued_text : Database (Option (List ℕ)) → (after_name order : List ℕ) → ExactText
valued_text database after_name order = record { database = database; after_name = Some after_name; filler = Some any_part_name; order = order }

-- a rank of the order has no block, or comes twice
abbrev pub HasBadRank : List (Option (List ℕ)) → (order : List ℕ) → Type 0
HasBadRank blocks order =
    (index : ℕ) × (index < length order) × (is_other blocks (take index order) (slice_index order index) ≡ false)

-- there is no such file: the bytes can't come after the name, or a rank is bad
abbrev pub IsNoExactFile : Database (Option (List ℕ)) → (after_name order : List ℕ) → Type 0
IsNoExactFile database after_name order =
    (is_after_name database.header.name after_name ≡ false) ⊎ HasBadRank (data_in database) order
