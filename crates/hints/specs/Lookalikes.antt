-- Files that look like PDB or PRC files, like heap images, or like what a transfer makes of them.
use Rattle.std.specs.Prelude.{ℕ, Bool, ◌&&◌, ◌||◌, ◌==◌, not, nat_le, if◌then◌else◌, ◌-◌, List, [], ◌∷◌, length, take, codes, slice_index, slice_range}
use Rattle.std.specs.List.{list_all}
use Rattle.std.specs.Str.{bytes_eq}
use Rattle.heap_model.specs.DatabaseFields.{name_size, header_size, kind_at, seed_at, next_list_at, entry_count_at}
use Rattle.heap_model.specs.Frame.{frame_size, size_at, slot_count_at}
use Rattle.palm_text.specs.Pieces.{is_printable}

-- the file begins as a heap image does, of one table or of a chain of tables
abbrev pub begins_as_image : List ℕ → Bool
begins_as_image file = bytes_eq (take 4 file) (codes "PHI1") || bytes_eq (take 4 file) (codes "PHI2")

-- The file has the header of an image, with a size below 2^24 that isn't 0. A database file named
-- PHI1 has zeros there.
abbrev pub looks_like_image : List ℕ → Bool
looks_like_image file =
    nat_le frame_size (length file)
    && begins_as_image file
    && (slice_index file size_at == 0)
    && not (bytes_eq (slice_range file size_at slot_count_at) (0 ∷ 0 ∷ 0 ∷ 0 ∷ []))

-- the byte ends a name, or is no control character below space
abbrev pub is_in_name : ℕ → Bool
is_in_name b = (b == 0) || nat_le 32 b

-- the field of the name has a zero byte at its end, and no control character below space before it
abbrev pub has_name_field : List ℕ → Bool
has_name_field file = (slice_index file (name_size - 1) == 0) && list_all is_in_name (take name_size file)

-- type and creator can be printed
abbrev pub has_kinds : List ℕ → Bool
has_kinds file = list_all is_printable (slice_range file kind_at seed_at)

-- the list of entries doesn't go on elsewhere
abbrev pub has_one_list : List ℕ → Bool
has_one_list file = bytes_eq (slice_range file next_list_at entry_count_at) (0 ∷ 0 ∷ 0 ∷ 0 ∷ [])

-- type and creator aren't eight zero bytes
abbrev pub has_some_kind : List ℕ → Bool
has_some_kind file =
    not (bytes_eq (slice_range file kind_at seed_at) (0 ∷ 0 ∷ 0 ∷ 0 ∷ 0 ∷ 0 ∷ 0 ∷ 0 ∷ []))

-- Two of these hold: the header has a name, its type and creator can be printed, it has one list of
-- entries. Without the second, type and creator aren't zero bytes.
abbrev pub has_header : List ℕ → Bool
has_header file =
    if has_kinds file then has_one_list file || has_name_field file
    else has_one_list file && has_name_field file && has_some_kind file

-- the file has such a header, and doesn't look like a heap image
abbrev pub looks_like_database : List ℕ → Bool
looks_like_database file =
    nat_le header_size (length file)
    && not (looks_like_image file)
    && has_header file

-- ---- what a transfer made of a file

-- the file begins as a page of the web does
abbrev pub looks_like_page : List ℕ → Bool
looks_like_page file =
    bytes_eq (take 5 file) (codes "<html")
    || bytes_eq (take 5 file) (codes "<HTML")
    || bytes_eq (take 9 file) (codes "<!doctype")
    || bytes_eq (take 9 file) (codes "<!DOCTYPE")

-- the number of bytes that MacBinary puts before a file
abbrev pub mac_header_size : ℕ
mac_header_size = 128

-- The file has the header of MacBinary: a zero byte, the length of a name of 1 to 63 bytes, and
-- zeros at 74 and 82. After it comes a file that looks like a database.
abbrev pub looks_like_mac : List ℕ → Bool
looks_like_mac file =
    nat_le mac_header_size (length file)
    && (slice_index file 0 == 0)
    && nat_le 1 (slice_index file 1)
    && nat_le (slice_index file 1) 63
    && (slice_index file 74 == 0)
    && (slice_index file 82 == 0)
    && looks_like_database (slice_range file mac_header_size (length file))
