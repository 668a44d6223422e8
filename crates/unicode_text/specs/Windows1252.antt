-- Windows-1252: the characters of bytes, by their codes in Unicode.
use Rattle.std.specs.Prelude.{ℕ, ◌-◌, ◌&&◌, nat_le, nat_lt, if◌then◌else◌, List, [], ◌∷◌, Option, Some, None, slice_index_or}

-- the bytes from 80 to 9F (hex), four to a line; five of them have no character
abbrev pub middle : List (Option ℕ)
middle =
    Some 0x20AC ∷ None ∷ Some 0x201A ∷ Some 0x0192  -- 80
    ∷ Some 0x201E ∷ Some 0x2026 ∷ Some 0x2020 ∷ Some 0x2021  -- 84
    ∷ Some 0x02C6 ∷ Some 0x2030 ∷ Some 0x0160 ∷ Some 0x2039  -- 88
    ∷ Some 0x0152 ∷ None ∷ Some 0x017D ∷ None  -- 8C
    ∷ None ∷ Some 0x2018 ∷ Some 0x2019 ∷ Some 0x201C  -- 90
    ∷ Some 0x201D ∷ Some 0x2022 ∷ Some 0x2013 ∷ Some 0x2014  -- 94
    ∷ Some 0x02DC ∷ Some 0x2122 ∷ Some 0x0161 ∷ Some 0x203A  -- 98
    ∷ Some 0x0153 ∷ None ∷ Some 0x017E ∷ Some 0x0178  -- 9C
    ∷ []

-- the character of a byte: below 80 that of ASCII, and from A0 that of Latin-1, with the byte for its code
abbrev pub character_of : ℕ → Option ℕ
character_of byte = if nat_le 0x80 byte && nat_lt byte 0xA0 then slice_index_or middle (byte - 0x80) None else Some byte
