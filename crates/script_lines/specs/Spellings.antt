-- How the words of each kind are spelled, and what they stand for.
use Rattle.std.specs.Prelude.{ℕ, ◌+◌, ◌-◌, ◌*◌, ◌==◌, ◌&&◌, ◌||◌, nat_lt, nat_le, Bool, true, false, if◌then◌else◌, List, [], ◌∷◌, length, take, drop, codes, slice_index, Option, Some, None}
use Rattle.std.specs.List.{list_all}
use Rattle.std.specs.Option.{option_and_then}
use Rattle.std.specs.Char.{is_ascii_alphabetic, is_ascii_digit}
use Rattle.std.specs.Str.{bytes_eq}
use Rattle.script_commands.specs.LentBytes.{hex_bytes}
use Rattle.heap_model.specs.Bytes.{u32_at}
use Rattle.heap_model.specs.declared.names.Which.{Which}
use Rattle.heap_model.specs.declared.names.Which.TheVariants.{App, Sort}
use Rattle.palm_text.specs.Pieces.{is_printable}

-- a letter, a digit or `_`
abbrev pub is_label_byte : ℕ → Bool
is_label_byte b = is_ascii_alphabetic b || is_ascii_digit b || b == 95

-- a label: a letter, then letters, digits or `_`, at most 31 characters
abbrev pub is_label : List ℕ → Bool
is_label [] = false
is_label (b ∷ bs) = is_ascii_alphabetic b && nat_lt (length bs) 31 && list_all is_label_byte bs

-- the value of a digit; 16 for a byte that is no digit
abbrev pub digit_value : ℕ → ℕ
digit_value b =
    if nat_le 48 b && nat_le b 57 then b - 48
    else if nat_le 97 b && nat_le b 102 then b - 87
    else if nat_le 65 b && nat_le b 70 then b - 55
    else 16

-- the number that digits of a base spell after others, which spell `front`
abbrev pub number_behind : ℕ → ℕ → List ℕ → Option ℕ
number_behind base front [] = Some front
number_behind base front (digit ∷ digits) =
    if nat_lt (digit_value digit) base then
    number_behind base (front * base + digit_value digit) digits
    else None

-- the number that one to `most` digits of a base spell
abbrev pub number_in : ℕ → ℕ → List ℕ → Option ℕ
number_in base most digits =
    if nat_lt 0 (length digits) && nat_le (length digits) most then number_behind base 0 digits
    else None

-- a number, if it is below a limit
abbrev pub below : ℕ → Option ℕ → Option ℕ
below limit None = None
below limit (Some number) = if nat_lt number limit then Some number else None

-- a number: one to ten decimal digits, or `0x` and one to eight hex digits
abbrev pub spelled_number : List ℕ → Option ℕ
spelled_number word = if bytes_eq (take 2 word) (codes "0x") then number_in 16 8 (drop 2 word) else number_in 10 10 word

-- a number below a limit
abbrev pub number_below : ℕ → List ℕ → Option ℕ
number_below limit word = below limit (spelled_number word)

-- a number below a limit in hex without `0x`: one to eight digits
abbrev pub hex_below : ℕ → List ℕ → Option ℕ
hex_below limit word = below limit (number_in 16 8 word)

-- bytes: hex digits, at least two, or `-` for none
abbrev pub spelled_bytes : List ℕ → Option (List ℕ)
spelled_bytes word = if bytes_eq word (codes "-") then Some [] else if length word == 0 then None else hex_bytes word

-- the bytes between the first byte of a word and its last
abbrev pub inside : List ℕ → List ℕ
inside word = take (length word - 2) (drop 1 word)

-- whether a word begins and ends with a quote
abbrev pub is_quoted : List ℕ → Bool
is_quoted word = nat_le 2 (length word) && slice_index word 0 == 34 && slice_index word (length word - 1) == 34

-- text: in quotes, or `x:` and hex digits, of which there may be none
abbrev pub spelled_text : List ℕ → Option (List ℕ)
spelled_text word =
    if bytes_eq (take 2 word) (codes "x:") then hex_bytes (drop 2 word)
    else if is_quoted word && list_all is_printable (inside word) then Some (inside word)
    else None

-- bytes as a number, if there are four
abbrev pub number_of_four : List ℕ → Option ℕ
number_of_four bytes = if length bytes == 4 then Some (u32_at bytes 0) else None

-- a type or a creator: text of four bytes, which are a number
abbrev pub spelled_four : List ℕ → Option ℕ
spelled_four word = option_and_then number_of_four (spelled_text word)

-- whether a flag is set: `0` or `1`
abbrev pub spelled_flag : List ℕ → Option Bool
spelled_flag word =
    if bytes_eq word (codes "0") then Some false
    else if bytes_eq word (codes "1") then Some true
    else None

-- an info block: `app` or `sort`
abbrev pub spelled_which : List ℕ → Option Which
spelled_which word =
    if bytes_eq word (codes "app") then Some App
    else if bytes_eq word (codes "sort") then Some Sort
    else None
