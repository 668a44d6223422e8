-- Rows that are written one after another.
use Rattle.std.proofs.Common.{◌≡◌, ℕ, ◌<◌, Bool, true, false, Option, Some, List, ◌++◌, length, get_or, refl, arith}
use Rattle.std.specs.List.{flat_map}
use Rattle.std.proofs.lemmas.List.Concat.{flat_map-append}
use Rattle.std.proofs.lemmas.List.FromFn.{length-map-range_with_len, get_or-map-range_with_len}
use Rattle.heap_model.specs.Categories.{categories}
use Rattle.heap_model.specs.Database.{DatabaseHeader, entry_count_in}
use Rattle.palm_text.specs.Counted.{Writing, Writes}
use Rattle.palm_text.proofs.Parts.{then, stops}
use Rattle.file_listing.specs.declared.facts.Facts.{Facts}
use Rattle.file_listing.specs.declared.rows.Extent.{Extent}
use Rattle.file_listing.specs.declared.rows.Row.{Row}
use Rattle.file_listing.specs.Listing.{AreFacts, IsListingBy, WritesListing, category_row, category_rows, entry_row_at, entry_rows, head_rows, rows_of}

module _ {W : Type 0} (text : Row → List ℕ) (contents : W → Option (List ℕ)) (old : Writing W) where
  -- rows that were written, and those after them
  pub then_rows : (mid new : Writing W) (xs ys : List Row) (ok : Bool) → Writes contents old mid (flat_map text xs) true → Writes contents mid new (flat_map text ys) ok → Writes contents old new (flat_map text (xs ++ ys)) ok
  then_rows mid new xs ys ok first rest = rw (flat_map-append text xs ys) (then contents old mid new _ _ ok first rest)

  -- a write of the first ones failed
  pub stops_rows : (new : Writing W) (xs ys : List Row) → Writes contents old new (flat_map text xs) false → Writes contents old new (flat_map text (xs ++ ys)) false
  stops_rows new xs ys first = rw (flat_map-append text xs ys) (stops contents old new _ _ first)

  -- and so the listing is written
  pub listed : (new : Writing W) (file : List ℕ) (facts : Facts) (ok : Bool) → AreFacts file facts → Writes contents old new (flat_map text (rows_of file facts)) ok → WritesListing text file contents old new ok
  unfolding IsListingBy
  listed new file facts ok are writes = (flat_map text (rows_of file facts), (facts, are, refl), writes)

-- the rows of a header, by equal parts
pub head_same : (facts : Facts) (size size' : ℕ) (header header' : DatabaseHeader) (app app' sort sort' : Option Extent)
    → size ≡ size' → header ≡ header' → app ≡ app' → sort ≡ sort'
    → head_rows size header facts app sort ≡ head_rows size' header' facts app' sort'
head_same facts size size' header header' app app' sort sort' size_is header_is app_is sort_is =
    rw (size_is, header_is, app_is, sort_is) refl

-- the number of the rows of the entries, and the row at an index
pub rows_long : (file : List ℕ) (names : Option (List ℕ)) → length (entry_rows file names) ≡ entry_count_in file
rows_long file names = length-map-range_with_len (entry_row_at file names) 0 (entry_count_in file)

pub row_here : (file : List ℕ) (names : Option (List ℕ)) (index : ℕ) → index < entry_count_in file → get_or (entry_rows file names) index (entry_row_at file names index) ≡ entry_row_at file names index
row_here file names index inside = get_or-map-range_with_len (entry_row_at file names) 0 (entry_count_in file) index index (entry_row_at file names index) inside (omega arith)

-- the same of the rows of the categories
pub names_long : (app : List ℕ) → length (category_rows (Some app)) ≡ categories
names_long app = length-map-range_with_len (category_row app) 0 categories

pub name_here : (app : List ℕ) (number : ℕ) → number < categories → get_or (category_rows (Some app)) number (category_row app number) ≡ category_row app number
name_here app number inside = get_or-map-range_with_len (category_row app) 0 categories number number (category_row app number) inside (omega arith)
