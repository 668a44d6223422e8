-- Lines that a function of the index gives, one after the other.
use Rattle.heap_map.proofs.Words.{◌≡◌, ℕ, zero, suc, ◌+◌, ◌-◌, ◌<◌, ◌≤◌, List, [], ◌∷◌, ◌++◌, length, get_or, take, drop, replicate, refl, ap, ◌∙◌, arith, add-one, drop-cons, codes, decimal, drop_all, numbered, padded}
use Rattle.std.specs.List.{concat}
use Rattle.std.proofs.lemmas.List.FromFn.{length-map-range_with_len, get_or-map-range_with_len}

-- the lines from an index on
abbrev pub rest_lines : (ℕ → List ℕ) → ℕ → ℕ → List ℕ
rest_lines each count index = concat (drop index (numbered each count))

lines_from : (lines : List (List ℕ)) (i : ℕ) (d : List ℕ) → i < length lines
    → concat (drop i lines) ≡ get_or lines i d ++ concat (drop (i + 1) lines)
lines_from lines i d within = rw (add-one, drop-cons lines i d) refl

-- the line of an index, and those after it
pub line_here : (each : ℕ → List ℕ) (count index : ℕ) → index < count
    → rest_lines each count index ≡ each index ++ rest_lines each count (index + 1)
line_here each count index inside =
    let long = length-map-range_with_len each 0 count in
    lines_from (numbered each count) index [] (omega arith)
    ∙ ap (λ line. line ++ rest_lines each count (index + 1))
    (get_or-map-range_with_len each 0 _ _ index [] inside (omega arith))

-- no line is left
pub none_left : (each : ℕ → List ℕ) (count index : ℕ) → count ≤ index
    → rest_lines each count index ≡ []
none_left each count index past =
    let long = length-map-range_with_len each 0 count in
    ap concat (drop_all index (numbered each count) (omega arith))

-- a prefix of spaces
front_of : (n m : ℕ) → n ≤ m → take {A = ℕ} n (replicate {A = ℕ} m 32) ≡ replicate {A = ℕ} n 32
front_of zero m less = refl
front_of (suc n) zero less = absurd (omega arith)
front_of (suc n) (suc m) less = ap (λ (xs : List ℕ). 32 ∷ xs) (front_of n m (omega arith))

pub spaces_are : (n : ℕ) → n ≤ 8 → take n (codes "        ") ≡ replicate {A = ℕ} n 32
spaces_are n few = front_of n 8 few

pub padded_is : (number n : ℕ) (front digits : List ℕ) → digits ≡ decimal number
    → n ≡ 8 - length digits → front ≡ replicate n 32 → front ++ digits ≡ padded number
unfolding padded
padded_is number n front digits is short spaces = ap (λ xs. xs ++ digits)
    (spaces ∙ ap (λ m. replicate m 32) short) ∙ ap (λ d. replicate (8 - length d) 32 ++ d) is
