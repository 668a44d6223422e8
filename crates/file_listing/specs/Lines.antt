-- The lines of text of a row.
use Rattle.std.specs.Prelude.{◌++◌, ℕ, Bool, true, false, List, [], ◌∷◌, Option, Some, None, codes, decimal}
use Rattle.hex.specs.Hex.{encode_lower}
use Rattle.heap_model.specs.Bytes.{u16_bytes, u32_bytes}
use Rattle.palm_text.specs.FaultTexts.{fault_text}
use Rattle.palm_text.specs.Pieces.{script_spelled}
use Rattle.unicode_text.specs.Texts.{between, text_between}
use Rattle.canonical_file.specs.Changes.{changes_line}
use Rattle.heap_model.specs.declared.file_fault.FileFault.{FileFault}
use Rattle.file_listing.specs.declared.rows.Extent.{Extent}
use Rattle.file_listing.specs.declared.rows.Epoch.{Epoch}
use Rattle.file_listing.specs.declared.rows.Epoch.TheVariants.{Year1904, Year1970}
use Rattle.file_listing.specs.declared.rows.Moment.{Moment}
use Rattle.file_listing.specs.declared.rows.RecordRow.{RecordRow}
use Rattle.file_listing.specs.declared.rows.Row.{Row}
use Rattle.file_listing.specs.declared.rows.Row.TheVariants.{Fault, Size, Name, Attributes, Version, Created, Modified, Backup, Number, Kind, Creator, Seed, Characters, App, Sort, Category, Count, Record, Resource, Needs, Changed}
use Rattle.file_listing.specs.Listing.{IsListingBy}
use Rattle.file_listing.specs.Moments.{moment_text}

-- a word and a value
abbrev pub line : (word value : List ℕ) → List ℕ
line word value = word ++ (value ++ codes "\n")

-- a fault, and the offset of its field
abbrev pub listed_fault : FileFault → ℕ → List ℕ
listed_fault fault at = codes "bad " ++ (fault_text fault ++ (codes "\nat " ++ (decimal at ++ codes "\n")))

-- the seconds of a moment, and its date and time in UTC and the epoch if it is 1970, or `never` if there is no such moment
abbrev pub seconds_text : (word : List ℕ) → ℕ → List ℕ
seconds_text word seconds = word ++ (decimal seconds ++ codes " ")

abbrev pub epoch_end : Epoch → List ℕ
epoch_end Year1904 = codes "\n"
epoch_end Year1970 = codes " since 1970\n"

unfoldable pub moment_line : (word : List ℕ) → Moment → List ℕ
moment_line word moment = seconds_text word moment.seconds ++ moment_text moment (codes "never\n") [] (epoch_end moment.epoch)

-- the extent of a block in a line: its offset and its size in bytes, or `none`
abbrev pub extent_text : (before : List ℕ) → Option Extent → (after : List ℕ) → List ℕ
extent_text before None after = before ++ (codes " none" ++ after)
extent_text before (Some block) after = before ++ (codes " " ++ (decimal block.offset ++ (codes " " ++ (decimal block.size ++ after))))

-- the characters of the name of a category in quotes, and the end of the line
abbrev pub named_end : List ℕ → List ℕ
named_end name = between (codes " \"") name (codes "\"\n")

abbrev pub category_end : Option (List ℕ) → List ℕ
category_end None = codes "\n"
category_end (Some name) = named_end name

-- a category with a name
unfoldable pub category_start : ℕ → List ℕ
category_start number = codes "category " ++ decimal number

unfoldable pub category_line : ℕ → List ℕ → List ℕ
category_line number name = category_start number ++ named_end name

abbrev pub line_if_named : ℕ → Option (List ℕ) → List ℕ
line_if_named number None = []
line_if_named number (Some name) = category_line number name

-- the kind of the entries
abbrev pub count_word : Bool → List ℕ
count_word true = codes "resources "
count_word false = codes "records "

-- an entry: its index, its attributes or its type, its ID, and the extent of its data
abbrev pub entry_start : ℕ → (value : List ℕ) → List ℕ
entry_start index value = decimal index ++ (codes " " ++ (value ++ codes " "))

unfoldable pub listed_resource : (index kind id : ℕ) → Option Extent → List ℕ
listed_resource index kind id block = entry_start index (script_spelled (u32_bytes kind)) ++ extent_text (decimal id) block (codes "\n")

unfoldable pub record_values : RecordRow → List ℕ
record_values row = entry_start row.index (encode_lower (row.attributes ∷ [])) ++ extent_text (decimal row.id) row.block []

-- and for a record the name of its category
unfoldable pub listed_record : RecordRow → List ℕ
listed_record row = record_values row ++ category_end row.category

unfoldable pub size_text : ℕ → List ℕ
size_text size = codes "needs " ++ (decimal size ++ codes " bytes and ")

abbrev pub slots_text : ℕ → List ℕ
slots_text slots = decimal slots ++ codes " slots in a heap\n"

unfoldable pub needs_line : (size slots : ℕ) → List ℕ
needs_line size slots = size_text size ++ slots_text slots

-- the line with the path of a file, if there is one
abbrev pub heading : (path : Option (List ℕ)) → List ℕ
heading None = []
heading (Some path) = codes "==> " ++ (path ++ codes " <==\n")

-- The line of a row, with the heading before the first row of a file. The row of the characters of a name has none if scripts spell the name in quotes, and that of a category none if it has no name.
abbrev pub listing_line : (path : Option (List ℕ)) → Row → List ℕ
listing_line path (Fault fault at) = heading path ++ listed_fault fault at
listing_line path (Size size) = heading path ++ line (codes "ok ") (decimal size)
listing_line path (Name name) = line (codes "name ") (script_spelled name)
listing_line path (Attributes bits) = line (codes "attributes ") (encode_lower (u16_bytes bits))
listing_line path (Version version) = line (codes "version ") (decimal version)
listing_line path (Created moment) = moment_line (codes "created ") moment
listing_line path (Modified moment) = moment_line (codes "modified ") moment
listing_line path (Backup moment) = moment_line (codes "backup ") moment
listing_line path (Number number) = line (codes "number ") (decimal number)
listing_line path (Kind kind) = line (codes "type ") (script_spelled (u32_bytes kind))
listing_line path (Creator creator) = line (codes "creator ") (script_spelled (u32_bytes creator))
listing_line path (Seed seed) = line (codes "seed ") (encode_lower (u32_bytes seed))
listing_line path (Characters name) = text_between (codes "text \"") name (codes "\"\n")
listing_line path (App block) = extent_text (codes "app") block (codes "\n")
listing_line path (Sort block) = extent_text (codes "sort") block (codes "\n")
listing_line path (Category number name) = line_if_named number name
listing_line path (Count resources count) = line (count_word resources) (decimal count)
listing_line path (Record row) = listed_record row
listing_line path (Resource index kind id block) = listed_resource index kind id block
listing_line path (Needs size slots) = needs_line size slots
listing_line path (Changed changes) = changes_line changes

-- this is the listing of the file, in lines
abbrev pub IsListing : (file text : List ℕ) → Type 0
IsListing file text = IsListingBy (listing_line None) file text
