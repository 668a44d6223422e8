-- Rows: where the rectangles of strips lie, and what stands at the left and at the right of a row.
use Rattle.std.specs.Prelude.{◌≡◌, ◌<◌, ◌≤◌, ◌+◌, ◌-◌, ◌*◌, ◌/◌, ◌%◌, ◌++◌, ◌==◌, if◌then◌else◌, ℕ, zero, suc, Bool, true, false, List, [], ◌∷◌, length, codes, decimal}
use Rattle.std.specs.List.{concat, flat_map}
use Rattle.heap_model.specs.Lists.{numbered}
use Rattle.heap_model.specs.Space.{greatest}
use Rattle.heap_svg.specs.declared.rooms.Room.{Room}
use Rattle.heap_map.specs.Marks.{fixed_mark, locked_mark, managers_mark, other_mark, free_mark}
use Rattle.heap_map.specs.Cells.{in_cell}
use Rattle.heap_svg.specs.declared.strips.Strip.{Strip}
use Rattle.heap_svg.specs.Strips.{head_mark}

-- ---- the size of a row

-- 64, doubled a number of times
abbrev pub doubled : ℕ → ℕ
doubled zero = 64
doubled (suc times) = 2 * doubled times

-- The bytes of a row: the least power of two, from 64 on, with which there are 32 rows at most.
pub record IsRowSize (size line : ℕ) : Type 0 where
  pub times : ℕ
  pub line_is : line ≡ doubled times
  pub enough : size ≤ 32 * line
  pub least : 64 < line → 16 * line < size

-- how many rows there are
abbrev pub rows_in : ℕ → ℕ → ℕ
rows_in size line = (size + (line - 1)) / line

-- how high a row is with the space to the next one, in pixels
abbrev pub pitch : ℕ
pitch = 17

-- A row of `line` bytes has 1,000 pixels. Chunks of fewer bytes than this are thin: they are at most
-- a pixel wide.
abbrev pub thin_below : ℕ → ℕ
thin_below line = line / 1000 + 1

-- ---- rectangles

-- The number of the class of a mark, which has its colour. Databases have eight colours in turn. The classes 0 and 1, of
-- chunks that stay, have a red frame.
abbrev pub class_number : ℕ → ℕ
class_number mark =
    if mark == fixed_mark then 0
    else if mark == locked_mark then 1
    else if mark == managers_mark then 2
    else if mark == other_mark then 3
    else if mark == free_mark then 4
    else if mark == head_mark then 5
    else (mark - 3) % 8 + 6

-- a thin strip has no white line around it, which would hide it
abbrev pub class_front : Bool → List ℕ
class_front true = codes "<path class=\"s c"
class_front false = codes "<path class=\"c"

-- a rectangle of a strip in a row: where it begins in the row, and its width, both in bytes
unfoldable pub rect_text : Strip → ℕ → ℕ → ℕ → List ℕ
rect_text strip row x width =
    class_front strip.is_thin ++ (decimal (class_number strip.mark) ++ (codes "\" d=\"M" ++ (decimal x ++ (codes " " ++ (decimal (pitch * row) ++ (codes "h" ++ (decimal width ++ (codes "v14h-" ++ (decimal width ++ codes "z\">")))))))))

-- what a browser shows of it: the offset of the strip, and how many bytes it has
unfoldable pub title_text : Strip → List ℕ
title_text strip = codes "<title>" ++ (decimal strip.at ++ (codes ": " ++ (decimal strip.size ++ codes "</title></path>\n")))

-- the part of a strip in a row
unfoldable pub strip_row : ℕ → Strip → ℕ → List ℕ
strip_row line strip row = rect_text strip row (strip.at - line * row) (in_cell line row strip.at (strip.at + strip.size)) ++ title_text strip

-- the rows that a strip touches: the first, and how many
abbrev pub first_row : ℕ → Strip → ℕ
first_row line strip = strip.at / line

abbrev pub strip_rows : ℕ → Strip → ℕ
strip_rows line strip = (strip.at + strip.size + (line - 1)) / line - first_row line strip

-- its part in one of these rows
abbrev pub strip_part : ℕ → Strip → ℕ → List ℕ
strip_part line strip i = strip_row line strip (first_row line strip + i)

-- a strip, as a rectangle in each row that it touches
unfoldable pub strip_text : ℕ → Strip → List ℕ
strip_text line strip = concat (numbered (strip_part line strip) (strip_rows line strip))

unfoldable pub strips_text : ℕ → List Strip → List ℕ
strips_text line strips = flat_map (strip_text line) strips

-- ---- at the left: the offset of the first byte

-- the start of a text at a row: where it stands from the left, and its class
unfoldable pub text_start : List ℕ → List ℕ → ℕ → List ℕ
text_start x class row =
    codes "<text x=\"" ++ (x ++ (codes "\" y=\"" ++ (decimal (pitch * row + 85) ++ (codes "\" class=\"" ++ (class ++ codes "\">")))))

unfoldable pub label_text : ℕ → ℕ → List ℕ
label_text line row = text_start (codes "68") (codes "n") row ++ (decimal (line * row) ++ codes "</text>\n")

unfoldable pub labels_text : ℕ → ℕ → List ℕ
labels_text line rows = concat (numbered (label_text line) rows)

-- ---- at the right: the largest room of the stretches that begin in a row, and how many more have room

-- the sizes of the rooms of the stretches that begin in a row
abbrev pub sizes_in : ℕ → ℕ → List Room → List ℕ
sizes_in line row [] = []
sizes_in line row (room ∷ rooms) = if room.start / line == row then room.size ∷ sizes_in line row rooms else sizes_in line row rooms

unfoldable pub more_text : ℕ → List ℕ
more_text others = if others == 0 then codes "</text>\n" else codes " and " ++ (decimal others ++ codes " more</text>\n")

unfoldable pub largest_text : ℕ → ℕ → List ℕ
largest_text row largest = text_start (codes "1082") (codes "r") row ++ (decimal largest ++ codes " bytes")

unfoldable pub sizes_text : ℕ → ℕ → ℕ → List ℕ
sizes_text row count largest = largest_text row largest ++ more_text (count - 1)

unfoldable pub right_text : ℕ → ℕ → ℕ → List ℕ
right_text row count largest = if count == 0 then [] else sizes_text row count largest

abbrev pub right_of : ℕ → List Room → ℕ → List ℕ
right_of line rooms row = right_text row (length (sizes_in line row rooms)) (greatest (sizes_in line row rooms))

unfoldable pub rights_text : ℕ → List Room → ℕ → List ℕ
rights_text line rooms rows = concat (numbered (right_of line rooms) rows)
