-- What `databases` prints. Where a definition ends in a `Bool`, it says whether all was written and flushed.
use Rattle.std.specs.Prelude.{◌++◌, ℕ, Bool, true, false, List, length, map, codes, decimal}
use Rattle.std.specs.List.{flat_map}
use Rattle.hex.specs.Hex.{encode_lower}
use Rattle.heap_model.specs.Bytes.{u16_bytes, u32_bytes}
use Rattle.heap_model.specs.Database.{has_resources}
use Rattle.heap_model.specs.DatabaseSteps.{info_of}
use Rattle.heap_model.specs.Files.{file_of}
use Rattle.heap_model.specs.Store.{StoredDatabase, Store, content}
use Rattle.heap_model.specs.declared.database.DbInfo.{DbInfo}
use Rattle.palm_text.specs.Pieces.{script_spelled}
use Rattle.unicode_text.specs.Texts.{text_between}
use Rattle.store_commands.specs.declared.databases.Row.{Row}

-- which entries a database has
abbrev pub kind_word : Bool → List ℕ
kind_word true = codes "resources"
kind_word false = codes "records"

-- the first words of a line
unfoldable pub first_words : DbInfo → List ℕ
first_words info =
    script_spelled info.name ++ (codes " " ++ (kind_word (has_resources info.attributes)
    ++ (codes " " ++ (script_spelled (u32_bytes info.kind)
    ++ (codes " " ++ (script_spelled (u32_bytes info.creator)
    ++ (codes " " ++ (encode_lower (u16_bytes info.attributes)
    ++ (codes " " ++ (decimal info.entry_count ++ codes " "))))))))))

-- the end of a line: a name that scripts don't spell in quotes comes again, in characters
abbrev pub listed_row_end : List ℕ → List ℕ
listed_row_end name = text_between (codes " \"") name (codes "\"") ++ codes "\n"

abbrev pub last_words : Row → List ℕ
last_words row = decimal row.size ++ listed_row_end row.info.name

-- The line of a database: its name, which entries it has, its type and its creator as scripts spell them, its attributes
-- in hex, how many entries there are, how many bytes its file has, and maybe the name in characters.
abbrev pub listed_row_line : Row → List ℕ
listed_row_line row = first_words row.info ++ last_words row

-- how many databases there are
unfoldable pub database_count_line : ℕ → List ℕ
database_count_line count = codes "ok " ++ (decimal count ++ codes "\n")

-- that line, and a line for each database
abbrev pub rows_text : List Row → List ℕ
rows_text rows = database_count_line (length rows) ++ flat_map listed_row_line rows

-- what is printed of a database: the values of its header, and how many bytes its file has
abbrev pub listed_row : Store → StoredDatabase → Row
listed_row store one = record {
  info = info_of one.database;
  size = length (file_of (content store.map one.database));
}

-- the rows of the databases of a store, in their order
abbrev pub listed_rows : Store → List Row
listed_rows store = map (listed_row store) store.databases
