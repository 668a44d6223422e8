-- The text of each piece, and of a line of pieces.
use Rattle.std.specs.Prelude.{◌++◌, ◌==◌, ◌&&◌, not, nat_le, ℕ, Bool, if◌then◌else◌, List, [], ◌∷◌, codes, decimal}
use Rattle.std.specs.List.{list_all}
use Rattle.hex.specs.Hex.{encode_lower}
use Rattle.heap_model.specs.Bytes.{u16_bytes, u32_bytes}
use Rattle.palm_text.specs.declared.pieces.Piece.{Piece}
use Rattle.palm_text.specs.declared.pieces.Piece.TheVariants.{Text, Spelled, FourBytes, Number, Hex, Hex8, Hex16, Hex32}

-- the bytes that quotes may contain: all from a space to `~`, except `"`
abbrev pub is_printable : ℕ → Bool
is_printable b = nat_le 32 b && nat_le b 126 && not (b == 34)

-- bytes with a quote after them, and bytes in quotes
abbrev pub closed : List ℕ → List ℕ
closed bytes = bytes ++ codes "\""

abbrev pub script_quoted : List ℕ → List ℕ
script_quoted bytes = codes "\"" ++ closed bytes

-- bytes as `x:` and two hex digits for each
abbrev pub marked_hex : List ℕ → List ℕ
marked_hex bytes = codes "x:" ++ encode_lower bytes

-- bytes as scripts spell text: in quotes if all of them are printable, otherwise in hex
abbrev pub script_spelled : List ℕ → List ℕ
script_spelled bytes = if list_all is_printable bytes then script_quoted bytes else marked_hex bytes

abbrev pub piece_text : Piece → List ℕ
piece_text (Text text) = text.now
piece_text (Spelled text) = script_spelled text.now
piece_text (FourBytes number) = script_spelled (u32_bytes number)
piece_text (Number number) = decimal number
piece_text (Hex bytes) = encode_lower bytes.now
piece_text (Hex8 number) = encode_lower (number ∷ [])
piece_text (Hex16 number) = encode_lower (u16_bytes number)
piece_text (Hex32 number) = encode_lower (u32_bytes number)

-- the texts of the pieces, one after another
abbrev pub text_of_pieces : List Piece → List ℕ
text_of_pieces [] = []
text_of_pieces (piece ∷ pieces) = piece_text piece ++ text_of_pieces pieces
