-- The rows of the listing of a file, and the listing in a notation.
use Rattle.std.specs.Prelude.{◌≡◌, ◌≢◌, ◌+◌, ◌++◌, ℕ, Bool, true, false, List, [], ◌∷◌, length, slice_index, slice_index_or, Option, Some, None, Result, Err, IfErr, OnOk}
use Rattle.std.specs.List.{flat_map}
use Rattle.heap_model.specs.Lists.{numbered}
use Rattle.heap_model.specs.Categories.{categories}
use Rattle.heap_model.specs.Database.{DatabaseHeader, Entry, a_record, a_resource, header_in, resources_in, entry_count_in, entry_in}
use Rattle.heap_model.specs.Files.{HasNoFault, IsFirstFault, offsets_in, blocks_in}
use Rattle.palm_text.specs.Counted.{Writing, Writes}
use Rattle.canonical_file.specs.Changes.{AreChanges}
use Rattle.canonical_file.specs.Needs.{least_slots, least_size_for}
use Rattle.heap_model.specs.declared.file_fault.FileFault.{FileFault}
use Rattle.file_listing.specs.declared.facts.Facts.{Facts}
use Rattle.file_listing.specs.declared.listing.ListFault.{ListFault}
use Rattle.file_listing.specs.declared.listing.ListFault.TheVariants.{BadFile, OutOfMemory, Write}
use Rattle.file_listing.specs.declared.rows.Extent.{Extent}
use Rattle.file_listing.specs.declared.rows.Row.{Row}
use Rattle.file_listing.specs.declared.rows.Row.TheVariants.{Fault, Size, Name, Attributes, Version, Created, Modified, Backup, Number, Kind, Creator, Seed, Characters, App, Sort, Category, Count, Record, Resource, Needs, Changed}
use Rattle.file_listing.specs.Categories.{categories_in, category_name, record_category}
use Rattle.file_listing.specs.Damage.{fault_place}
use Rattle.file_listing.specs.Moments.{IsMoment}

-- the extent of a block that begins at an offset, if there is the block
abbrev pub extent_at : ℕ → Option (List ℕ) → Option Extent
extent_at at None = None
extent_at at (Some bytes) = Some (record { offset = at; size = length bytes })

-- the extent of an info block: AppInfo has the rank 0, and SortInfo the rank 1
abbrev pub info_extent : List ℕ → ℕ → Option Extent
info_extent file rank = extent_at (slice_index (offsets_in file) rank) (slice_index_or (blocks_in file) rank None)

-- the moments of a file's header, the names of its categories, and the changes when the file is rewritten
pub record AreFacts (file : List ℕ) (facts : Facts) : Type 0 where
  pub created : IsMoment (header_in file).creation_date facts.created
  pub modified : IsMoment (header_in file).modification_date facts.modified
  pub backup : IsMoment (header_in file).backup_date facts.backup
  pub categories : facts.categories ≡ categories_in file
  pub changes : AreChanges file facts.changes

-- the rows of the size and of a header, and those of the name's characters and of the info blocks
abbrev pub head_rows : (size : ℕ) → DatabaseHeader → Facts → (app sort : Option Extent) → List Row
head_rows size header facts app sort =
    Size size ∷ Name header.name ∷ Attributes header.attributes ∷ Version header.version
    ∷ Created facts.created ∷ Modified facts.modified ∷ Backup facts.backup
    ∷ Number header.modification_number ∷ Kind header.kind ∷ Creator header.creator ∷ Seed header.seed
    ∷ Characters header.name ∷ App app ∷ Sort sort ∷ []

unfoldable pub first_rows : List ℕ → Facts → List Row
first_rows file facts = head_rows (length file) (header_in file) facts (info_extent file 0) (info_extent file 1)

-- the rows of the categories, if AppInfo has their names
abbrev pub category_row : List ℕ → ℕ → Row
category_row app number = Category number (category_name app number)

abbrev pub category_rows : Option (List ℕ) → List Row
category_rows None = []
category_rows (Some app) = numbered (category_row app) categories

-- the row of the entries' kind and number
unfoldable pub count_rows : List ℕ → List Row
count_rows file = Count (resources_in file) (entry_count_in file) ∷ []

-- the row of an entry at an index, with the extent of its data, and the name of its category
abbrev pub entry_row : (names : Option (List ℕ)) → ℕ → Entry ℕ → Option (List ℕ) → Row
entry_row names index (a_record attributes id at) block = Record (record {
  index = index;
  attributes = attributes;
  category = record_category names attributes;
  id = id;
  block = extent_at at block;
})
entry_row names index (a_resource kind id at) block = Resource index kind id (extent_at at block)

abbrev pub entry_row_at : List ℕ → (names : Option (List ℕ)) → ℕ → Row
entry_row_at file names index = entry_row names index (entry_in file index) (slice_index_or (blocks_in file) (2 + index) None)

abbrev pub entry_rows : List ℕ → (names : Option (List ℕ)) → List Row
entry_rows file names = numbered (entry_row_at file names) (entry_count_in file)

-- the least size and number of slots of a new image with the database
abbrev pub needed_slots : List ℕ → ℕ
needed_slots file = least_slots (file ∷ [])

abbrev pub needed_size : List ℕ → ℕ
needed_size file = least_size_for (needed_slots file) (file ∷ [])

-- the rows after the entries
abbrev pub last_rows : List ℕ → Facts → List Row
last_rows file facts = Needs (needed_size file) (needed_slots file) ∷ Changed facts.changes ∷ []

-- the rows from that of the entries' kind and number on
abbrev pub body_rows : List ℕ → Facts → List Row
body_rows file facts = count_rows file ++ (entry_rows file facts.categories ++ last_rows file facts)

unfoldable pub rows_of : List ℕ → Facts → List Row
rows_of file facts = first_rows file facts ++ (category_rows facts.categories ++ body_rows file facts)

-- this is the listing of the file, with this text for each row
unfoldable pub IsListingBy : (Row → List ℕ) → (file text : List ℕ) → Type 0
IsListingBy row_text file text = (facts : Facts) × AreFacts file facts × (text ≡ flat_map row_text (rows_of file facts))

-- the listing of the file goes to a writer: all of it if `ok`, or else a prefix of it
abbrev pub WritesListing : {W : Type 0} → (Row → List ℕ) → List ℕ → (W → Option (List ℕ)) → Writing W → Writing W → Bool → Type 0
WritesListing row_text file contents old new ok = (text : List ℕ) × IsListingBy row_text file text × Writes contents old new text ok

-- the row of a fault
abbrev pub fault_row : List ℕ → FileFault → Row
fault_row file fault = Fault fault (fault_place file fault)

-- the reason why a file was not listed
abbrev pub IsListFault : List ℕ → ListFault → Type 0
IsListFault file (BadFile fault) = IsFirstFault file fault
IsListFault file OutOfMemory = HasNoFault file
IsListFault file Write = HasNoFault file

-- A file was listed, or why not. `puts` is that its listing was written, by whether all writes succeeded, and `unused`
-- that nothing was written.
pub record Lists (file : List ℕ) (puts : Bool → Type 0) (unused is_short : Type 0) (result : Result (Unit {0}) ListFault) : Type 0 where
  pub done : OnOk result (puts true)
  pub why : IfErr result (IsListFault file)
  pub untouched : IfErr result (λ fault. fault ≢ Write → unused)
  pub write : result ≡ Err Write → puts false
  pub short : result ≡ Err OutOfMemory → is_short
