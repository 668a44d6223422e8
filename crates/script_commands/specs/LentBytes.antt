-- Bytes that the text of a script lends: its own bytes, or those that its hex digits spell.
use Rattle.std.specs.Prelude.{ℕ, Bool, true, false, List, [], Option, unwrap_or}
use Rattle.std.specs.Result.{result_ok}
use Rattle.hex.specs.Hex.{decode_of}

-- the bytes that hex digits spell, two for each byte; none if their number is odd or a byte is no
-- digit
abbrev pub hex_bytes : List ℕ → Option (List ℕ)
hex_bytes digits = result_ok (decode_of digits)

-- the bytes that a part of a text stands for: those that its digits spell if it is in hex,
-- otherwise its own
abbrev pub bytes_meant : Bool → List ℕ → List ℕ
bytes_meant true text = unwrap_or (hex_bytes text) []
bytes_meant false text = text
