-- The text of each piece, and of pieces one after another.
use Rattle.std.specs.Prelude.{ℕ, List, decimal}
use Rattle.std.specs.List.{flat_map}
use Rattle.heap_model.specs.Bytes.{u32_bytes}
use Rattle.unicode_text.specs.declared.pieces.JsonPiece.{JsonPiece}
use Rattle.unicode_text.specs.declared.pieces.JsonPiece.TheVariants.{Text, Number, String, Utf8, Hex, FourBytes, FourHex}
use Rattle.unicode_text.specs.Strings.{string, hex_string, utf8_string}

abbrev pub json_text : JsonPiece → List ℕ
json_text (Text text) = text.now
json_text (Number number) = decimal number
json_text (String bytes) = string bytes.now
json_text (Utf8 text) = utf8_string text.now
json_text (Hex bytes) = hex_string bytes.now
json_text (FourBytes number) = string (u32_bytes number)
json_text (FourHex number) = hex_string (u32_bytes number)

abbrev pub json_of : List JsonPiece → List ℕ
json_of pieces = flat_map json_text pieces
