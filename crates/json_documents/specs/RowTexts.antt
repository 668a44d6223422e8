-- The text of each row in a document. The texts of all rows, one after another, are the document.
use Rattle.std.specs.Prelude.{◌++◌, ◌&&◌, ◌||◌, ◌==◌, if◌then◌else◌, ℕ, Bool, true, false, List, [], Option, Some, None, codes, decimal}
use Rattle.heap_model.specs.Bytes.{u32_bytes}
use Rattle.heap_model.specs.Files.{file_fault_name, faulty_part}
use Rattle.heap_model.specs.declared.names.Which.TheVariants.{App as AppBlock, Sort as SortBlock}
use Rattle.heap_model.specs.declared.file_fault.FaultyPart.{FaultyPart}
use Rattle.heap_model.specs.declared.file_fault.FaultyPart.TheVariants.{Whole, Block, Entry}
use Rattle.heap_model.specs.declared.file_fault.FileFault.{FileFault}
use Rattle.canonical_file.specs.declared.changes.Changes.{Changes}
use Rattle.canonical_file.specs.Changes.{word}
use Rattle.file_listing.specs.declared.rows.Extent.{Extent}
use Rattle.file_listing.specs.declared.rows.Epoch.{Epoch}
use Rattle.file_listing.specs.declared.rows.Epoch.TheVariants.{Year1904, Year1970}
use Rattle.file_listing.specs.declared.rows.Moment.{Moment}
use Rattle.file_listing.specs.declared.rows.RecordRow.{RecordRow}
use Rattle.file_listing.specs.declared.rows.Row.{Row}
use Rattle.file_listing.specs.declared.rows.Row.TheVariants.{Fault, Size, Name, Attributes, Version, Created, Modified, Backup, Number, Kind, Creator, Seed, Characters, App, Sort, Category, Count, Record, Resource, Needs, Changed}
use Rattle.file_listing.specs.Moments.{moment_text}
use Rattle.unicode_text.specs.Strings.{string, hex_string, utf8_string}

-- a key and a value
abbrev pub member : (key value : List ℕ) → List ℕ
member key value = key ++ (value ++ codes ",")

-- the string of some bytes, and that of their hex digits, each after its key
abbrev pub member_with_hex : (key bytes hex_key : List ℕ) → List ℕ
member_with_hex key bytes hex_key = key ++ (string bytes ++ (hex_key ++ (hex_string bytes ++ codes ",")))

-- the seconds of a moment, its UTC text, and the year from which the seconds count, each after its key; the text and the year are `null` if there is no such moment
abbrev pub seconds_before : (key : List ℕ) → ℕ → (utc_key : List ℕ) → List ℕ
seconds_before key seconds utc_key = key ++ (decimal seconds ++ utc_key)

abbrev pub epoch_json : Epoch → List ℕ
epoch_json Year1904 = codes "1904,"
epoch_json Year1970 = codes "1970,"

abbrev pub year_json : Moment → List ℕ
year_json moment = if moment.seconds == 0 then codes "null," else epoch_json moment.epoch

abbrev pub since_json : (since_key : List ℕ) → Moment → List ℕ
since_json since_key moment = since_key ++ year_json moment

unfoldable pub date_json : Moment → (since_key : List ℕ) → List ℕ
date_json moment since_key = moment_text moment (codes "null") (codes "\"") (codes "\"") ++ since_json since_key moment

unfoldable pub moment_json : (key : List ℕ) → Moment → (utc_key since_key : List ℕ) → List ℕ
moment_json key moment utc_key since_key = seconds_before key moment.seconds utc_key ++ date_json moment since_key

-- the extent of an info block, or `null`
abbrev pub extent_json : (key : List ℕ) → Option Extent → List ℕ
extent_json key None = key ++ codes "null,"
extent_json key (Some block) = key ++ (codes "{\"offset\":" ++ (decimal block.offset ++ (codes ",\"length\":" ++ (decimal block.size ++ codes "},"))))

-- the kind of the entries
abbrev pub kind_json : Bool → List ℕ
kind_json true = codes "\"kind\":\"resources\",\"entries\":["
kind_json false = codes "\"kind\":\"records\",\"entries\":["

-- the index of an entry, and the attributes of a record or the type of a resource; an entry after the first has a comma before it
abbrev pub comma : ℕ → List ℕ
comma index = if index == 0 then [] else codes ","

-- a category: its name or `null`, in the array of all categories
abbrev pub array_start : ℕ → List ℕ
array_start number = if number == 0 then codes "\"categories\":[" else codes ","

abbrev pub last_category : ℕ
last_category = 15

abbrev pub array_end : ℕ → List ℕ
array_end number = if number == last_category then codes "]," else []

abbrev pub name_json : Option (List ℕ) → List ℕ
name_json None = codes "null"
name_json (Some name) = string name

unfoldable pub category_json : ℕ → Option (List ℕ) → List ℕ
category_json number name = array_start number ++ (name_json name ++ array_end number)

abbrev pub index_json : ℕ → List ℕ
index_json index = comma index ++ (codes "{\"index\":" ++ decimal index)

abbrev pub record_start : (index attributes : ℕ) → List ℕ
record_start index attributes = index_json index ++ member (codes ",\"attributes\":") (decimal attributes)

abbrev pub resource_start : (index kind : ℕ) → List ℕ
resource_start index kind = index_json index ++ member_with_hex (codes ",\"type\":") (u32_bytes kind) (codes ",\"type_hex\":")

-- the ID of an entry, and the offset and the length of its data; both are `null` if it has none
abbrev pub data_json : ℕ → Option Extent → List ℕ
data_json id None = codes "\"id\":" ++ (decimal id ++ codes ",\"offset\":null,\"length\":null}")
data_json id (Some block) = codes "\"id\":" ++ (decimal id ++ (codes ",\"offset\":" ++ (decimal block.offset ++ (codes ",\"length\":" ++ (decimal block.size ++ codes "}")))))

-- the name of the category of a record, if it has one
abbrev pub category_member : Option (List ℕ) → List ℕ
category_member None = []
category_member (Some name) = codes "\"category\":" ++ (string name ++ codes ",")

unfoldable pub record_json : RecordRow → List ℕ
record_json row = record_start row.index row.attributes ++ (category_member row.category ++ data_json row.id row.block)

unfoldable pub resource_json : (index kind id : ℕ) → Option Extent → List ℕ
resource_json index kind id block = resource_start index kind ++ data_json id block

-- the least size and number of slots of a new image with the database
abbrev pub needs_of : (size slots : List ℕ) → List ℕ
needs_of size slots = codes "],\"needs\":{\"size\":" ++ (size ++ (codes ",\"slots\":" ++ (slots ++ codes "},")))

unfoldable pub needs_json : (size slots : ℕ) → List ℕ
needs_json size slots = needs_of (decimal size) (decimal slots)

-- the words of the changes when the file is rewritten, with commas between
abbrev pub comma_if : Bool → List ℕ
comma_if between = word between (codes ",")

unfoldable pub changes_json : Changes → List ℕ
changes_json changes =
    codes "\"changes\":["
    ++ (word changes.busy (codes "\"busy\"")
    ++ (comma_if (changes.busy && changes.filler)
    ++ (word changes.filler (codes "\"filler\"")
    ++ (comma_if ((changes.busy || changes.filler) && changes.ids)
    ++ (word changes.ids (codes "\"ids\"")
    ++ (comma_if (((changes.busy || changes.filler) || changes.ids) && changes.name)
    ++ (word changes.name (codes "\"name\"")
    ++ (comma_if ((((changes.busy || changes.filler) || changes.ids) || changes.name) && changes.order)
    ++ (word changes.order (codes "\"order\"")
    ++ codes "]}\n")))))))))

-- the fields after the name of a fault, up to the end of the numbers: the word of an info block, and
-- the index of an entry as the only number
abbrev pub faulty_fields : FaultyPart → List ℕ
faulty_fields Whole = codes "\",\"numbers\":["
faulty_fields (Block AppBlock) = codes "\",\"block\":\"app\",\"numbers\":["
faulty_fields (Block SortBlock) = codes "\",\"block\":\"sort\",\"numbers\":["
faulty_fields (Entry index) = codes "\",\"numbers\":[" ++ decimal index

-- the document for a damaged file, after its start
abbrev pub fault_json : FileFault → ℕ → List ℕ
fault_json fault at = codes "\"fault\":\"" ++ (file_fault_name fault ++ (faulty_fields (faulty_part fault) ++ (codes "],\"at\":" ++ (decimal at ++ codes "}\n"))))

-- the start of a document, with the path of the file if there is one
abbrev pub document_start : (path : Option (List ℕ)) → List ℕ
document_start None = codes "{"
document_start (Some path) = codes "{\"path\":" ++ (utf8_string path ++ codes ",")

-- The text of a row, with the start of the document before the first row of a file. The name has its characters as its string, so their row has no text.
abbrev pub listing_json : (path : Option (List ℕ)) → Row → List ℕ
listing_json path (Fault fault at) = document_start path ++ fault_json fault at
listing_json path (Size size) = document_start path ++ member (codes "\"size\":") (decimal size)
listing_json path (Name name) = member_with_hex (codes "\"name\":") name (codes ",\"name_hex\":")
listing_json path (Attributes bits) = member (codes "\"attributes\":") (decimal bits)
listing_json path (Version version) = member (codes "\"version\":") (decimal version)
listing_json path (Created moment) = moment_json (codes "\"created\":") moment (codes ",\"created_utc\":") (codes ",\"created_since\":")
listing_json path (Modified moment) = moment_json (codes "\"modified\":") moment (codes ",\"modified_utc\":") (codes ",\"modified_since\":")
listing_json path (Backup moment) = moment_json (codes "\"backup\":") moment (codes ",\"backup_utc\":") (codes ",\"backup_since\":")
listing_json path (Number number) = member (codes "\"number\":") (decimal number)
listing_json path (Kind kind) = member_with_hex (codes "\"type\":") (u32_bytes kind) (codes ",\"type_hex\":")
listing_json path (Creator creator) = member_with_hex (codes "\"creator\":") (u32_bytes creator) (codes ",\"creator_hex\":")
listing_json path (Seed seed) = member (codes "\"seed\":") (decimal seed)
listing_json path (Characters name) = []
listing_json path (App block) = extent_json (codes "\"app\":") block
listing_json path (Sort block) = extent_json (codes "\"sort\":") block
listing_json path (Category number name) = category_json number name
listing_json path (Count resources count) = kind_json resources
listing_json path (Record row) = record_json row
listing_json path (Resource index kind id block) = resource_json index kind id block
listing_json path (Needs size slots) = needs_json size slots
listing_json path (Changed changes) = changes_json changes
