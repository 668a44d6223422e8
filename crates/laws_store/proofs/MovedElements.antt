-- An element of a list moved.
use Rattle.laws_store.proofs.Words.{◌≡◌, ℕ, ◌+◌, ◌-◌, ◌<◌, ◌≤◌, List, [], ◌∷◌, length, get_or, take, drop, ap, ◌∙◌, append_assoc, drop-cons, arith, inl, inr, cases_lt, length-insert, length-remove, sum_by-insert, sum_by-remove, nat_lt, insert, slice_range, remove, insert_slice, sum_by, insertion_index, moved, cond-true, cond-false, lt-ltb, le-ltb}

pub insertion_behind : (from to : ℕ) → from < to → insertion_index from to ≡ to - 1
insertion_behind from to less = cond-true (nat_lt from to) (to - 1) to (lt-ltb from to less)

pub insertion_before : (from to : ℕ) → to ≤ from → insertion_index from to ≡ to
insertion_before from to le = cond-false (nat_lt from to) (to - 1) to (le-ltb from to le)

insertion_below : (from to n : ℕ) → from < n → to ≤ n → insertion_index from to < n
insertion_below from to n below most = elim (cases_lt from to) [
  | inl less ↦ let e = insertion_behind from to less in omega arith
  | inr le ↦ let e = insertion_before from to le in omega arith
]

one_of : {X : Type 0} (xs : List X) (i : ℕ) (d : X) → i < length xs
    → slice_range xs i (i + 1) ≡ get_or xs i d ∷ []
one_of xs i d below =
    let one : i + 1 - i ≡ 1 = omega arith in
    ap (λ (n : ℕ). take n (drop i xs)) one ∙ ap (take 1) (drop-cons xs i d below)

-- it is taken out, and put in again
pub moved_is : {X : Type 0} (xs : List X) (from to : ℕ) (d : X) → from < length xs
    → moved xs from to ≡ insert (remove xs from) (insertion_index from to) (get_or xs from d)
moved_is xs from to d below =
    let rest : List _ = remove xs from in
    let at : ℕ = insertion_index from to in
    ap (insert_slice rest at) (one_of xs from d below)
    ∙ append_assoc (take at rest) (get_or xs from d ∷ []) (drop at rest)

pub length-moved : {X : Type 0} (xs : List X) (from to : ℕ) → from < length xs → to ≤ length xs
    → length (moved xs from to) ≡ length xs
length-moved [] from to below most = absurd (omega arith)
length-moved (x ∷ xs) from to below most =
    let out = length-remove (x ∷ xs) from below in
    let at = insertion_below from to (length (x ∷ xs)) below most in
    let back = length-insert (remove (x ∷ xs) from) (insertion_index from to)
    (get_or (x ∷ xs) from x) (omega arith) in
    let is = ap length (moved_is (x ∷ xs) from to x below) in
    omega arith

-- a sum over the elements stays, and so do their counts
pub sum_by-moved : {X : Type 0} (f : X → ℕ) (xs : List X) (from to : ℕ) → from < length xs
    → sum_by f (moved xs from to) ≡ sum_by f xs
sum_by-moved f [] from to below = absurd (omega arith)
sum_by-moved f (x ∷ xs) from to below =
    let is = ap (sum_by f) (moved_is (x ∷ xs) from to x below) in
    let back =
    sum_by-insert f (remove (x ∷ xs) from) (insertion_index from to) (get_or (x ∷ xs) from x) in
    let out = sum_by-remove f (x ∷ xs) from x below in
    omega arith
