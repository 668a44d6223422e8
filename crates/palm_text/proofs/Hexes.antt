-- Bytes in hex, in parts.
use Rattle.std.proofs.Common.{◌≡◌, ℕ, List, [], ◌∷◌, ◌++◌, refl, ap, sym, ◌∙◌, take, drop, take-append-drop}
use Rattle.std.specs.Prelude.{slice_index, ◌/◌, ◌%◌, Option, Bool, true, false}
use Rattle.palm_text.specs.Counted.{Writing, Writes}
use Rattle.palm_text.proofs.Parts.{then, stops, nothing}
use Rattle.hex.specs.Hex.{encode_with, encode_lower, lower_digits}

pub encode_with-append : (t a b : List ℕ) → encode_with t (a ++ b) ≡ encode_with t a ++ encode_with t b
unfolding encode_with
encode_with-append t [] b = refl
encode_with-append t (x ∷ a) b = ap (λ l. slice_index t (x / 16) ∷ slice_index t (x % 16) ∷ l) (encode_with-append t a b)

-- the first n bytes, and then the rest
pub encode_split : (n : ℕ) (bytes : List ℕ) → encode_lower bytes ≡ encode_lower (take n bytes) ++ encode_lower (drop n bytes)
encode_split n bytes = ap encode_lower (sym (take-append-drop n bytes)) ∙ encode_with-append lower_digits (take n bytes) (drop n bytes)

pub encode_none : encode_lower [] ≡ []
unfolding encode_with
encode_none = refl

in_two : (n : ℕ) (bytes front back : List ℕ) → front ≡ take n bytes → back ≡ drop n bytes → encode_lower bytes ≡ encode_lower front ++ encode_lower back
in_two n bytes front back at behind = rw (at, behind) (encode_split n bytes)

-- a turn that was written, and what follows it
pub then_turn : {W : Type 0} (contents : W → Option (List ℕ)) (old mid new : Writing W) (n : ℕ) (bytes front back : List ℕ) (ok : Bool) → front ≡ take n bytes → back ≡ drop n bytes → Writes contents old mid (encode_lower front) true → Writes contents mid new (encode_lower back) ok → Writes contents old new (encode_lower bytes) ok
then_turn contents old mid new n bytes front back ok at behind first rest = rw (in_two n bytes front back at behind) (then contents old mid new _ _ ok first rest)

-- a turn that failed
pub stops_turn : {W : Type 0} (contents : W → Option (List ℕ)) (old new : Writing W) (n : ℕ) (bytes front : List ℕ) → front ≡ take n bytes → Writes contents old new (encode_lower front) false → Writes contents old new (encode_lower bytes) false
stops_turn contents old new n bytes front at first = rw (in_two n bytes front (drop n bytes) at refl) (stops contents old new _ _ first)

-- no turn is left
pub no_turn : {W : Type 0} (contents : W → Option (List ℕ)) (w : Writing W) (bytes : List ℕ) → bytes ≡ [] → Writes contents w w (encode_lower bytes) true
no_turn contents w bytes none = rw (none, encode_none) (nothing contents w)
