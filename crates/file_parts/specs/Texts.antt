-- The text of a database, with its data in parts: files of a folder. The database of a text has
-- names of parts instead of data.
use Rattle.std.specs.Prelude.{◌+◌, ◌/◌, ◌%◌, ◌++◌, ℕ, List, [], ◌∷◌, Option, Some, None, codes, decimal}
use Rattle.std.specs.List.{flat_map}
use Rattle.hex.specs.Hex.{encode_lower}
use Rattle.heap_model.specs.Bytes.{u16_bytes, u32_bytes}
use Rattle.heap_model.specs.Database.{DatabaseHeader, Database, Entry, a_record, a_resource, entry_data, entry_with}
use Rattle.palm_text.specs.Pieces.{script_spelled}

-- ---- the names that parts get

-- the names of the parts of the info blocks
abbrev pub app_name : List ℕ
app_name = codes "app"

abbrev pub sort_name : List ℕ
sort_name = codes "sort"

-- the name of the part of an entry: its index, in five digits
abbrev pub entry_name : ℕ → List ℕ
entry_name index = decimal (index / 10000) ++ (decimal (index / 1000 % 10) ++ (decimal (index / 100 % 10) ++ (decimal (index / 10 % 10) ++ decimal (index % 10))))

-- a name instead of the data, if there is data
abbrev pub name_if_data : List ℕ → Option (List ℕ) → Option (List ℕ)
name_if_data name None = None
name_if_data name (Some bytes) = Some name

-- entries with names instead of their data; the first entry has this index
abbrev pub named_entries : ℕ → List (Entry (Option (List ℕ))) → List (Entry (Option (List ℕ)))
named_entries index [] = []
named_entries index (entry ∷ entries) = entry_with (name_if_data (entry_name index)) entry ∷ named_entries (index + 1) entries

-- a database with names instead of its data
abbrev pub with_names : Database (Option (List ℕ)) → Database (Option (List ℕ))
with_names database = record {
  header = database.header;
  app_info = name_if_data app_name database.app_info;
  sort_info = name_if_data sort_name database.sort_info;
  entries = named_entries 0 database.entries;
}

-- ---- the text

-- the lines of the values of a header
unfoldable pub header_lines : DatabaseHeader → List ℕ
header_lines header =
    codes "name " ++ (script_spelled header.name
    ++ (codes "\nattributes " ++ (encode_lower (u16_bytes header.attributes)
    ++ (codes "\nversion " ++ (decimal header.version
    ++ (codes "\ncreated " ++ (decimal header.creation_date
    ++ (codes "\nmodified " ++ (decimal header.modification_date
    ++ (codes "\nbackup " ++ (decimal header.backup_date
    ++ (codes "\nnumber " ++ (decimal header.modification_number
    ++ (codes "\ntype " ++ (script_spelled (u32_bytes header.kind)
    ++ (codes "\ncreator " ++ (script_spelled (u32_bytes header.creator)
    ++ (codes "\nseed " ++ (encode_lower (u32_bytes header.seed)
    ++ codes "\n")))))))))))))))))))

-- the end of a line: the name of a part, or `none`
abbrev pub part_text : Option (List ℕ) → List ℕ
part_text None = codes " none\n"
part_text (Some name) = codes " " ++ (name ++ codes "\n")

-- the line of an info block
abbrev pub info_line : List ℕ → Option (List ℕ) → List ℕ
info_line word part = word ++ part_text part

-- the kind of an entry, and its values: the attributes and the ID of a record, or the type and the
-- id of a resource
abbrev pub entry_values : Entry (Option (List ℕ)) → List ℕ
entry_values (a_record attributes id part) = codes "record " ++ (encode_lower (attributes ∷ []) ++ (codes " " ++ decimal id))
entry_values (a_resource kind id part) = codes "resource " ++ (script_spelled (u32_bytes kind) ++ (codes " " ++ decimal id))

-- the line of an entry
abbrev pub entry_line : Entry (Option (List ℕ)) → List ℕ
entry_line entry = entry_values entry ++ part_text (entry_data entry)

-- the lines of the info blocks, and the lines of the entries
unfoldable pub info_lines : Database (Option (List ℕ)) → List ℕ
info_lines database = info_line (codes "app") database.app_info ++ info_line (codes "sort") database.sort_info

abbrev pub entry_lines : List (Entry (Option (List ℕ))) → List ℕ
entry_lines entries = flat_map entry_line entries

-- the lines after those of the header
unfoldable pub body_lines : Database (Option (List ℕ)) → List ℕ
body_lines database = info_lines database ++ entry_lines database.entries

-- the text of a database
unfoldable pub database_text : Database (Option (List ℕ)) → List ℕ
database_text database = header_lines database.header ++ body_lines database
