-- What is written before a reply.
use Rattle.std.specs.Prelude.{ℕ, ◌==◌, ◌&&◌, ◌||◌, Bool, false, cond, List, [], ◌∷◌, ◌++◌, drop, codes, decimal}

-- whether the last of some bytes is a line feed
abbrev pub ends_line : List ℕ → Bool
ends_line [] = false
ends_line (byte ∷ []) = byte == 10
ends_line (byte ∷ next ∷ bytes) = ends_line (next ∷ bytes)

-- the number of the next reply and a space, or nothing if no number is left
abbrev pub reply_number_text : List ℕ → List ℕ
reply_number_text [] = []
reply_number_text (number ∷ numbers) = decimal number ++ codes " "

-- a reply begins with `ok` or `refused`, and no other line that is printed begins with `o` or `r`
abbrev pub is_reply : ℕ → Bool
is_reply byte = (byte == 111) || (byte == 114)

-- whether these bytes are the first of a reply
abbrev pub begins_reply : (at_start : Bool) → List ℕ → Bool
begins_reply at_start [] = false
begins_reply at_start (byte ∷ bytes) = at_start && is_reply byte

-- what is written before these bytes
abbrev pub front : (at_start : Bool) → (numbers bytes : List ℕ) → List ℕ
front at_start numbers bytes = cond (begins_reply at_start bytes) (reply_number_text numbers) []

-- the numbers that are left after these bytes
abbrev pub numbers_left : (at_start : Bool) → (numbers bytes : List ℕ) → List ℕ
numbers_left at_start numbers bytes = cond (begins_reply at_start bytes) (drop 1 numbers) numbers

-- whether these bytes begin a reply that is a refusal
abbrev pub says_refused : (at_start : Bool) → List ℕ → Bool
says_refused at_start [] = false
says_refused at_start (byte ∷ bytes) = at_start && (byte == 114)
