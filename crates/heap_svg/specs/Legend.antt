-- The legend: the kinds of chunks, the databases, and the free pieces by size.
use Rattle.std.specs.Prelude.{◌+◌, ◌*◌, ◌/◌, ◌%◌, ◌^◌, ◌++◌, ◌==◌, ◌&&◌, ◌||◌, nat_le, nat_lt, if◌then◌else◌, ℕ, Bool, true, false, List, [], ◌∷◌, length, count_by, codes, decimal}
use Rattle.std.specs.List.{concat, flat_map}
use Rattle.heap_model.specs.Database.{name_in, resources_in, entry_count_in}
use Rattle.heap_model.specs.Lists.{numbered}
use Rattle.store_check.specs.Listing.{header_at, listed_count}
use Rattle.heap_map.specs.Marks.{letter_of}
use Rattle.heap_svg.specs.Rows.{pitch}

-- where the legend begins
abbrev pub legend_at : ℕ → ℕ
legend_at rows = pitch * rows + 88

-- the kinds and their colours
unfoldable pub kinds_text : ℕ → List ℕ
kinds_text rows =
    codes "<g transform=\"translate(74 " ++ (decimal (legend_at rows) ++ (codes ")\">\n"
    ++ (codes "<path class=\"c5\" d=\"M0 0h12v12h-12z\"/><text x=\"17\" y=\"10\">head and slots</text>\n"
    ++ (codes "<path class=\"c2\" d=\"M140 0h12v12h-12z\"/><text x=\"157\" y=\"10\">directory and headers</text>\n"
    ++ (codes "<path class=\"c3\" d=\"M320 0h12v12h-12z\"/><text x=\"337\" y=\"10\">other movable chunks</text>\n"
    ++ (codes "<path class=\"c0\" d=\"M500 0h12v12h-12z\"/><text x=\"517\" y=\"10\">fixed</text>\n"
    ++ (codes "<path class=\"c1\" d=\"M590 0h12v12h-12z\"/><text x=\"607\" y=\"10\">locked</text>\n"
    ++ (codes "<path class=\"c4\" d=\"M690 0h12v12h-12z\"/><text x=\"707\" y=\"10\">free</text>\n"
    ++ (codes "</g>\n")))))))))

-- ---- databases

-- a byte that is written by its number: it has a meaning in XML, or is a letter or a sign above ASCII
abbrev pub is_by_number : ℕ → Bool
is_by_number byte = (byte == 38) || (byte == 60) || (byte == 62) || nat_le 160 byte

unfoldable pub byte_reference : ℕ → List ℕ
byte_reference byte = codes "&#" ++ (decimal byte ++ codes ";")

-- a byte that is printed in ASCII
abbrev pub is_printed : ℕ → Bool
is_printed byte = nat_le 32 byte && nat_le byte 126

abbrev pub plain_byte : ℕ → List ℕ
plain_byte byte = if is_printed byte then byte ∷ [] else codes "?"

-- a byte of a name: by its number, or as it is if it is printed, and else as a question mark
abbrev pub escaped_byte : ℕ → List ℕ
escaped_byte byte = if is_by_number byte then byte_reference byte else plain_byte byte

unfoldable pub escaped : List ℕ → List ℕ
escaped name = flat_map escaped_byte name

-- how many entries there are, at the end of a line
abbrev pub kind_note : Bool → List ℕ
kind_note true = codes " resources</text></g>\n"
kind_note false = codes " records</text></g>\n"

unfoldable pub count_note : List ℕ → List ℕ
count_note header = codes ": " ++ (decimal (entry_count_in header) ++ kind_note (resources_in header))

-- the name of a database, and how many entries it has
unfoldable pub entries_note : List ℕ → List ℕ
entries_note header = escaped (name_in header) ++ count_note header

-- a square with the colour of a database, in two columns
unfoldable pub square_text : ℕ → ℕ → List ℕ
square_text rows db =
    codes "<g transform=\"translate(" ++ (decimal (480 * (db % 2) + 74) ++ (codes " " ++ (decimal (22 * (db / 2) + (legend_at rows + 22))
    ++ (codes ")\"><path class=\"c" ++ (decimal (db % 8 + 6) ++ codes "\" d=\"M0 0h12v12h-12z\"/><text x=\"17\" y=\"10\">")))))

-- its letter, its name and its entries
unfoldable pub letter_note : ℕ → List ℕ → List ℕ
letter_note db header = (letter_of (db + 1) ∷ 32 ∷ []) ++ entries_note header

-- a database of the legend
unfoldable pub database_note : ℕ → ℕ → List ℕ → List ℕ
database_note rows db header = square_text rows db ++ letter_note db header

abbrev pub database_at : List ℕ → ℕ → ℕ → List ℕ
database_at image rows db = database_note rows db (header_at image db)

unfoldable pub databases_note : List ℕ → ℕ → List ℕ
databases_note image rows = concat (numbered (database_at image rows) (listed_count image))

-- ---- free pieces by size

-- where they begin, behind the databases
unfoldable pub sizes_at : ℕ → ℕ → ℕ
sizes_at rows count = 22 * ((count + 1) / 2) + (legend_at rows + 44)

-- the piece has at least `least` bytes, and fewer than twice as many
abbrev pub is_of_size : ℕ → ℕ → Bool
is_of_size least size = nat_le least size && nat_lt size (2 * least)

-- how many pieces there are of a size, if there are any; the sizes stand in rows of seven
unfoldable pub size_note : ℕ → ℕ → ℕ → ℕ → List ℕ
size_note top index least count =
    if count == 0 then []
    else codes "<text x=\"" ++ (decimal (142 * (index % 7) + 74) ++ (codes "\" y=\"" ++ (decimal (18 * (index / 7) + (top + 18)) ++ (codes "\">" ++ (decimal least ++ (codes ": " ++ (decimal count ++ codes "</text>\n")))))))

-- the least size of a class: the powers of two from 8 on
abbrev pub least_of : ℕ → ℕ
least_of index = 8 * 2 ^ index

abbrev pub size_note_at : ℕ → List ℕ → ℕ → List ℕ
size_note_at top pieces index = size_note top index (least_of index) (count_by (is_of_size (least_of index)) pieces)

unfoldable pub size_notes : ℕ → List ℕ → List ℕ
size_notes top pieces = concat (numbered (size_note_at top pieces) 21)

unfoldable pub sizes_head : ℕ → List ℕ
sizes_head top = codes "<text x=\"74\" y=\"" ++ (decimal top ++ codes "\">free pieces by size, from:</text>\n")

unfoldable pub pieces_by_size : ℕ → List ℕ → List ℕ
pieces_by_size top pieces = sizes_head top ++ size_notes top pieces

-- nothing if nothing is free
unfoldable pub pieces_text : ℕ → List ℕ → List ℕ
pieces_text top pieces = if length pieces == 0 then [] else pieces_by_size top pieces
