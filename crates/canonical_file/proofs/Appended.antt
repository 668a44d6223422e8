-- If a part is appended, the text that is there and the rest still make the whole, and there is
-- room.
use Rattle.std.proofs.Common.{◌≡◌, ℕ, ◌+◌, ◌≤◌, List, ◌++◌, length, sym, ap, ◌∙◌, arith, append_assoc, length-append}

-- one more part, which is at the front of the rest
pub text_more : (old more rest behind whole : List ℕ) → rest ≡ more ++ behind → old ++ rest ≡ whole
    → (old ++ more) ++ behind ≡ whole
text_more old more rest behind whole parts is =
    append_assoc old more behind ∙ ap (λ (xs : List ℕ). old ++ xs) (sym parts) ∙ is

-- how long it is then
pub length_more : (count total : ℕ) (more rest behind : List ℕ) → rest ≡ more ++ behind
    → count + length rest ≡ total → count + length more + length behind ≡ total
length_more count total more rest behind parts is =
    let both = ap length parts ∙ length-append more behind in omega arith

-- and there was room for the part
pub room_left : (count total capacity : ℕ) (more rest behind : List ℕ) → rest ≡ more ++ behind
    → count + length rest ≡ total → total ≤ capacity → count + length more ≤ capacity
room_left count total capacity more rest behind parts is room =
    let both = ap length parts ∙ length-append more behind in omega arith
