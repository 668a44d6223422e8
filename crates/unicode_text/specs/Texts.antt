-- Names in UTF-8, as a terminal can show them.
use Rattle.std.specs.Prelude.{ℕ, ◌++◌, if◌then◌else◌, List, [], Option, Some, None}
use Rattle.std.specs.Char.{encode_utf8, is_control}
use Rattle.std.specs.List.{list_all, flat_map}
use Rattle.palm_text.specs.Pieces.{is_printable}
use Rattle.unicode_text.specs.Windows1252.{character_of}

-- the code of the character that is written: U+FFFD for a control character, or for none
abbrev pub written_code : Option ℕ → ℕ
written_code None = 0xFFFD
written_code (Some code) = if is_control code then 0xFFFD else code

abbrev pub shown : ℕ → ℕ
shown byte = written_code (character_of byte)

abbrev pub character : ℕ → List ℕ
character byte = encode_utf8 (shown byte)

abbrev pub characters : List ℕ → List ℕ
characters bytes = flat_map character bytes

abbrev pub characters_before : (bytes after : List ℕ) → List ℕ
characters_before bytes after = characters bytes ++ after

abbrev pub between : (before name after : List ℕ) → List ℕ
between before name after = before ++ characters_before name after

-- the characters of a name between two texts, or nothing if scripts spell the name in quotes
abbrev pub text_between : (before name after : List ℕ) → List ℕ
text_between before name after = if list_all is_printable name then [] else between before name after
