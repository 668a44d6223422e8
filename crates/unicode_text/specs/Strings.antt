-- Strings of a document.
use Rattle.std.specs.Prelude.{ℕ, Bool, ◌==◌, ◌&&◌, ◌||◌, ◌++◌, nat_le, not, if◌then◌else◌, List, [], ◌∷◌, codes}
use Rattle.std.specs.List.{flat_map}
use Rattle.std.specs.Option.{unwrap_or}
use Rattle.hex.specs.Hex.{encode_lower}
use Rattle.heap_model.specs.Bytes.{u16_bytes}
use Rattle.unicode_text.specs.Windows1252.{character_of}
use Rattle.unicode_text.specs.declared.strings.Coding.{Coding}
use Rattle.unicode_text.specs.declared.strings.Coding.TheVariants.{Windows1252, Utf8}

-- the code of the character of a byte in Windows-1252; a byte without a character has its own code
abbrev pub code_of : ℕ → ℕ
code_of b = unwrap_or (character_of b) b

-- a byte that stands in a string as it is: a character from space to `~`, except `"` and `\`
abbrev pub is_plain_in_string : ℕ → Bool
is_plain_in_string b = nat_le 32 b && nat_le b 126 && not (b == 34) && not (b == 92)

-- in a string of text in UTF-8 bytes from 80 (hex) on stand as they are, too
abbrev pub is_kept : Coding → ℕ → Bool
is_kept Windows1252 b = is_plain_in_string b
is_kept Utf8 b = is_plain_in_string b || nat_le 128 b

-- any other one as `\u` and its code in four hex digits
abbrev pub escape_of : ℕ → List ℕ
escape_of b = codes "\\u" ++ encode_lower (u16_bytes (code_of b))

abbrev pub string_character : Coding → ℕ → List ℕ
string_character coding b = if is_kept coding b then b ∷ [] else escape_of b

abbrev pub string_characters : Coding → List ℕ → List ℕ
string_characters coding bytes = flat_map (string_character coding) bytes

-- their characters in quotes
abbrev pub closed_string : Coding → List ℕ → List ℕ
closed_string coding bytes = string_characters coding bytes ++ codes "\""

abbrev pub string_in : Coding → List ℕ → List ℕ
string_in coding bytes = codes "\"" ++ closed_string coding bytes

-- the string of some bytes, and of a text in UTF-8
abbrev pub string : List ℕ → List ℕ
string bytes = string_in Windows1252 bytes

abbrev pub utf8_string : List ℕ → List ℕ
utf8_string text = string_in Utf8 text

-- the string of the hex digits of some bytes
abbrev pub hex_string : List ℕ → List ℕ
hex_string bytes = codes "\"" ++ (encode_lower bytes ++ codes "\"")
