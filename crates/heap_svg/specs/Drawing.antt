-- The picture of an image as SVG.
use Rattle.std.specs.Prelude.{◌≡◌, ◌+◌, ◌-◌, ◌*◌, ◌++◌, ℕ, Bool, List, length, count_by, Option, codes, decimal}
use Rattle.heap_model.specs.Chunk.{is_movable}
use Rattle.heap_model.specs.Reading.{chunks_of}
use Rattle.heap_model.specs.Slots.{slots_of}
use Rattle.heap_model.specs.Space.{free_total, greatest}
use Rattle.heap_model.specs.Store.{listed}
use Rattle.heap_svg.specs.Rooms.{compact_pieces, rooms_drawn}
use Rattle.heap_map.specs.Text.{free_pieces}
use Rattle.palm_text.specs.Counted.{Writing, Writes}
use Rattle.heap_svg.specs.declared.strips.Strip.{Strip}
use Rattle.heap_svg.specs.Strips.{strips_of, ShowImage}
use Rattle.heap_svg.specs.Rows.{IsRowSize, rows_in, pitch, thin_below, strips_text, labels_text, rights_text}
use Rattle.heap_svg.specs.Legend.{kinds_text, databases_note, sizes_at, pieces_text}

-- ---- the head

-- the first line with the height of the picture, the styles with the colours of the kinds of chunks and of databases, and
-- a white background
unfoldable pub open_text : ℕ → List ℕ
open_text height =
    codes "<svg xmlns=\"http://www.w3.org/2000/svg\" width=\"1224\" height=\"" ++ (decimal height
    ++ (codes "\" viewBox=\"0 0 1224 " ++ (decimal height
    ++ (codes "\" font-family=\"sans-serif\" font-size=\"12\">\n"
    ++ (codes "<style>\n"
    ++ (codes "svg{overflow:visible}\n"
    ++ (codes "path{stroke:#fff;stroke-width:.8;vector-effect:non-scaling-stroke}\n"
    ++ (codes ".s{stroke:none}\n"
    ++ (codes ".t{font-size:16px;font-weight:bold}\n"
    ++ (codes ".n{font-size:10px;fill:#666;text-anchor:end}\n"
    ++ (codes ".r{font-size:10px;fill:#060}\n"
    ++ (codes ".c0{fill:#d62728;stroke:#a00;stroke-width:1.4}\n"
    ++ (codes ".c1{fill:#ffb3a7;stroke:#c00;stroke-width:1.4}\n"
    ++ (codes ".c2{fill:#111}\n"
    ++ (codes ".c3{fill:#bcbd22}\n"
    ++ (codes ".c4{fill:#cfe6cf}\n"
    ++ (codes ".c5{fill:#444}\n"
    ++ (codes ".c6{fill:#4e79a7}\n"
    ++ (codes ".c7{fill:#f28e2b}\n"
    ++ (codes ".c8{fill:#59a14f}\n"
    ++ (codes ".c9{fill:#b07aa1}\n"
    ++ (codes ".c10{fill:#9c755f}\n"
    ++ (codes ".c11{fill:#76b7b2}\n"
    ++ (codes ".c12{fill:#edc948}\n"
    ++ (codes ".c13{fill:#ff9da7}\n"
    ++ (codes "</style>\n"
    ++ (codes "<rect width=\"100%\" height=\"100%\" fill=\"#fff\"/>\n")))))))))))))))))))))))))))

-- the size of the image, and its slots
unfoldable pub used_slots_text : ℕ → ℕ → ℕ → List ℕ
used_slots_text size used slots =
    codes "<text x=\"74\" y=\"22\" class=\"t\">" ++ (decimal size ++ (codes " bytes, " ++ (decimal used ++ (codes " of " ++ (decimal slots ++ codes " slots in use</text>\n")))))

-- what is free, and what a compact leaves of it
unfoldable pub free_note : ℕ → ℕ → ℕ → ℕ → ℕ → List ℕ
free_note total count largest left_count left_largest =
    codes "<text x=\"74\" y=\"42\">free " ++ (decimal total ++ (codes " bytes in " ++ (decimal count
    ++ (codes " pieces, the largest " ++ (decimal largest ++ (codes "; a compact leaves " ++ (decimal left_count
    ++ (codes " pieces, the largest " ++ (decimal left_largest ++ codes "</text>\n")))))))))

-- ---- the bar: what is used, the largest free piece, what a compact adds to it, and what else is free

unfoldable pub bar_open : ℕ → List ℕ
bar_open size = codes "<svg x=\"74\" y=\"52\" width=\"1000\" height=\"9\" viewBox=\"0 0 " ++ (decimal size ++ codes " 9\" preserveAspectRatio=\"none\">\n")

-- a part of the bar: its first byte, its end, its colour, and what a browser says of it
unfoldable pub bar_part : ℕ → ℕ → List ℕ → List ℕ → List ℕ
bar_part start end colour title =
    codes "<rect x=\"" ++ (decimal start ++ (codes "\" width=\"" ++ (decimal (end - start) ++ (codes "\" height=\"9\" fill=\"" ++ (colour ++ (codes "\"><title>" ++ (title ++ codes "</title></rect>\n")))))))

-- its parts by their ends
unfoldable pub bar_parts : ℕ → ℕ → ℕ → ℕ → List ℕ
bar_parts used largest most size =
    bar_part 0 used (codes "#888") (codes "used")
    ++ (bar_part used largest (codes "#2ca02c") (codes "the largest free piece")
    ++ (bar_part largest most (codes "#98df8a") (codes "what a compact adds to it")
    ++ (bar_part most size (codes "#f7b6b2") (codes "free in other stretches")
    ++ codes "</svg>\n")))

-- the bar of an image of a size, by how many bytes are free, how many the largest free piece has, and how many the largest
-- that a compact leaves
unfoldable pub bar_text : ℕ → ℕ → ℕ → ℕ → List ℕ
bar_text size total largest most = bar_open size ++ bar_parts (size - total) (size - total + largest) (size - total + most) size

-- ---- the rows

-- the frame of the strips, in which a byte of a row is one wide
unfoldable pub frame_text : ℕ → ℕ → List ℕ
frame_text line rows =
    codes "<svg x=\"74\" y=\"74\" width=\"1000\" height=\"" ++ (decimal (pitch * rows) ++ (codes "\" viewBox=\"0 0 " ++ (decimal line ++ (codes " " ++ (decimal (pitch * rows) ++ codes "\" preserveAspectRatio=\"none\">\n")))))

-- the strips in their frame, the line over the rooms, and the offsets of the rows
unfoldable pub framed_text : ℕ → ℕ → List Strip → List ℕ
framed_text line rows strips =
    frame_text line rows ++ (strips_text line strips
    ++ (codes "</svg>\n<text x=\"1082\" y=\"68\" class=\"r\">room of stretches</text>\n" ++ labels_text line rows))

-- ---- the whole

-- how high a picture with these numbers of rows and of databases is
abbrev pub height_of : ℕ → ℕ → ℕ
height_of rows count = sizes_at rows count + 70

unfoldable pub top_text : List ℕ → ℕ → List ℕ
top_text image rows =
    open_text (height_of rows (length (listed image)))
    ++ used_slots_text (length image) (count_by is_movable (chunks_of image)) (length (slots_of image))

unfoldable pub notes_text : List ℕ → List ℕ
notes_text image =
    free_note (free_total image) (length (free_pieces image)) (greatest (free_pieces image)) (length (compact_pieces image)) (greatest (compact_pieces image))
    ++ bar_text (length image) (free_total image) (greatest (free_pieces image)) (greatest (compact_pieces image))

unfoldable pub middle_text : List ℕ → ℕ → ℕ → List ℕ
middle_text image line rows = framed_text line rows (strips_of image (thin_below line)) ++ rights_text line (rooms_drawn image) rows

unfoldable pub closing_text : List ℕ → ℕ → List ℕ
closing_text image rows = pieces_text (sizes_at rows (length (listed image))) (free_pieces image) ++ codes "</svg>\n"

unfoldable pub bottom_text : List ℕ → ℕ → List ℕ
bottom_text image rows = kinds_text rows ++ (databases_note image rows ++ closing_text image rows)

unfoldable pub drawing_text : List ℕ → ℕ → ℕ → List ℕ
drawing_text image line rows = top_text image rows ++ (notes_text image ++ (middle_text image line rows ++ bottom_text image rows))

-- This is the picture of an image: its rows have as many bytes as they are to, it is the text for them, and its strips
-- show the image.
pub record IsDrawing (image text : List ℕ) : Type 0 where
  pub line : ℕ
  pub line_is : IsRowSize (length image) line
  pub text_is : text ≡ drawing_text image line (rows_in (length image) line)
  pub shown : ShowImage image (strips_of image (thin_below line))

-- the picture of an image goes to a writer, all of it or a prefix
abbrev pub WritesDrawing : {W : Type 0} → List ℕ → (W → Option (List ℕ)) → Writing W → Writing W → Bool → Type 0
WritesDrawing image contents old new ok = (text : List ℕ) × IsDrawing image text × Writes contents old new text ok
