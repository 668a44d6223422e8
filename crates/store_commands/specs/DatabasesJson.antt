-- What `databases --json` prints. Where a definition ends in a `Bool`, it says whether all was written and flushed.
use Rattle.std.specs.Prelude.{◌++◌, ℕ, Bool, true, false, List, [], ◌∷◌, codes, decimal}
use Rattle.std.specs.List.{flat_map}
use Rattle.heap_model.specs.Bytes.{u32_bytes}
use Rattle.heap_model.specs.Database.{has_resources}
use Rattle.heap_model.specs.declared.database.DbInfo.{DbInfo}
use Rattle.unicode_text.specs.Strings.{string, hex_string}
use Rattle.store_commands.specs.declared.databases.Row.{Row}

-- which entries a database has
abbrev pub kind_and_type_json : Bool → List ℕ
kind_and_type_json true = codes ",\"kind\":\"resources\",\"type\":"
kind_and_type_json false = codes ",\"kind\":\"records\",\"type\":"

-- The object of a database: its name, which entries it has, its type and its creator, its attributes, how many entries
-- there are, and how many bytes its file has.
unfoldable pub info_json : DbInfo → List ℕ
info_json info =
    codes "{\"name\":" ++ (string info.name
    ++ (codes ",\"name_hex\":" ++ (hex_string info.name
    ++ (kind_and_type_json (has_resources info.attributes) ++ (string (u32_bytes info.kind)
    ++ (codes ",\"type_hex\":" ++ (hex_string (u32_bytes info.kind)
    ++ (codes ",\"creator\":" ++ (string (u32_bytes info.creator)
    ++ (codes ",\"creator_hex\":" ++ (hex_string (u32_bytes info.creator)
    ++ (codes ",\"attributes\":" ++ (decimal info.attributes
    ++ (codes ",\"count\":" ++ (decimal info.entry_count ++ codes ",")))))))))))))))

unfoldable pub file_size_json : ℕ → List ℕ
file_size_json size = codes "\"size\":" ++ (decimal size ++ codes "}")

abbrev pub row_json : Row → List ℕ
row_json row = info_json row.info ++ file_size_json row.size

-- the objects of databases, with commas between
abbrev pub next_json : Row → List ℕ
next_json row = codes "," ++ row_json row

abbrev pub more_json : List Row → List ℕ
more_json rows = flat_map next_json rows

abbrev pub rows_json : List Row → List ℕ
rows_json [] = []
rows_json (row ∷ rows) = row_json row ++ more_json rows

abbrev pub closed_json : List Row → List ℕ
closed_json rows = rows_json rows ++ codes "]}\n"

unfoldable pub databases_document : List Row → List ℕ
databases_document rows = codes "{\"databases\":[" ++ closed_json rows
