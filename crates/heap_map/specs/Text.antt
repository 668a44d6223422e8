-- The picture of an image as text.
use Rattle.std.specs.Prelude.{◌+◌, ◌-◌, ◌*◌, ◌/◌, ◌++◌, min, ℕ, Bool, true, false, List, [], ◌∷◌, length, replicate, slice_range, count_by, codes, decimal}
use Rattle.std.specs.List.{concat}
use Rattle.heap_model.specs.Chunk.{Chunk, free, movable, fixed, is_movable}
use Rattle.heap_model.specs.Database.{name_in, resources_in, entry_count_in}
use Rattle.heap_model.specs.Layout.{layout_of}
use Rattle.heap_model.specs.Lists.{numbered}
use Rattle.heap_model.specs.Reading.{chunks_of}
use Rattle.heap_model.specs.Slots.{area_start, slots_of}
use Rattle.heap_model.specs.Space.{free_total, greatest}
use Rattle.palm_text.specs.Pieces.{script_spelled}
use Rattle.store_check.specs.Listing.{header_at, listed_count}
use Rattle.heap_map.specs.Marks.{letter_of}
use Rattle.heap_map.specs.Cells.{cell_size, marks}

-- ---- the first line

-- the line with the size of an image, its slots, how many of them are in use, and the size of a
-- cell
unfoldable pub head_text : ℕ → ℕ → ℕ → ℕ → List ℕ
head_text size slots used cell =
    codes "size " ++ (decimal size ++ (codes " slots " ++ (decimal slots
    ++ (codes " used " ++ (decimal used ++ (codes " cell " ++ (decimal cell ++ codes "\n")))))))

-- the first line of an image
abbrev pub head_line : List ℕ → List ℕ
head_line image = head_text (length image) (length (slots_of image)) (count_by is_movable (chunks_of image)) (cell_size image)

-- ---- rows of marks

-- how many marks a row has
abbrev pub row_length : ℕ
row_length = 64

-- a number with spaces before it, so that it is 8 bytes wide
unfoldable pub padded : ℕ → List ℕ
padded number = replicate (8 - length (decimal number)) 32 ++ decimal number

-- a row: the offset of its first byte, and its marks
unfoldable pub row_text : ℕ → List ℕ → List ℕ
row_text offset row = padded offset ++ (codes " " ++ (row ++ codes "\n"))

-- the row with an index, for marks of cells of a size. The first cell begins at an offset.
abbrev pub row_line : ℕ → ℕ → List ℕ → ℕ → List ℕ
row_line start size row_marks row =
    row_text (start + size * (row_length * row)) (slice_range row_marks (row_length * row) (min (row_length * row + row_length) (length row_marks)))

-- how many rows `count` marks take
abbrev pub row_count : ℕ → ℕ
row_count count = (count + 63) / 64

-- all rows, for marks of cells of a size. The first cell begins at an offset.
unfoldable pub row_lines : ℕ → ℕ → List ℕ → List ℕ
row_lines start size row_marks = concat (numbered (row_line start size row_marks) (row_count (length row_marks)))

-- ---- the free space

-- the sizes of the free chunks among some chunks
abbrev pub free_sizes : List Chunk → List ℕ
free_sizes [] = []
free_sizes (free size ∷ chunks) = size ∷ free_sizes chunks
free_sizes (movable bytes lock owner slot ∷ chunks) = free_sizes chunks
free_sizes (fixed bytes owner ∷ chunks) = free_sizes chunks

-- the free pieces of an image: each run of neighbouring free chunks is one
abbrev pub free_pieces : List ℕ → List ℕ
free_pieces image = free_sizes (layout_of image)

-- the line with the number of free bytes, the number of pieces, and the size of the largest piece
unfoldable pub free_text : ℕ → ℕ → ℕ → List ℕ
free_text total count largest =
    codes "free " ++ (decimal total ++ (codes " in " ++ (decimal count ++ (codes " pieces, the largest " ++ (decimal largest ++ codes "\n")))))

-- the line of the free space of an image
abbrev pub free_line : List ℕ → List ℕ
free_line image = free_text (free_total image) (length (free_pieces image)) (greatest (free_pieces image))

-- ---- databases

-- the word for the entries of a database, with the end of its line
abbrev pub kind_text : Bool → List ℕ
kind_text true = codes " resources\n"
kind_text false = codes " records\n"

-- the rest of a database's line: its name, and how many entries it has
unfoldable pub name_and_count : List ℕ → List ℕ
name_and_count header = codes " " ++ (script_spelled (name_in header) ++ (codes " " ++ (decimal (entry_count_in header) ++ kind_text (resources_in header))))

-- the line of a database: its letter, its name, and how many entries it has
unfoldable pub map_database_line : ℕ → List ℕ → List ℕ
map_database_line number header = (letter_of number ∷ []) ++ name_and_count header

-- the line of the database with an index
abbrev pub database_line : List ℕ → ℕ → List ℕ
database_line image db = map_database_line (db + 1) (header_at image db)

-- the lines of all databases, in the order of the directory
unfoldable pub database_lines : List ℕ → List ℕ
database_lines image = concat (numbered (database_line image) (listed_count image))

-- ---- all lines

-- the lines after the rows
unfoldable pub tail_lines : List ℕ → List ℕ
tail_lines image = free_line image ++ database_lines image

-- the lines after the first one
unfoldable pub map_body : List ℕ → List ℕ
map_body image = row_lines (area_start image) (cell_size image) (marks image) ++ tail_lines image

-- the picture of an image
unfoldable pub map_text : List ℕ → List ℕ
map_text image = head_line image ++ map_body image
