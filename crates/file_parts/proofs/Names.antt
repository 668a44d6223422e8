-- The names of databases, as tests.
use Rattle.file_parts.proofs.AllWords.{◌≡◌, ◌<◌, ℕ, Bool, true, false, Option, Some, None, List, [], ◌∷◌, length, refl, sym, ap, subst, ◌∙◌, arith, All, ◌&&◌, nat_lt, SomeIff, list_all, and_parts, All-head, All-tail, All-nil, All-cons, IsDatabaseName, is_name, name_if}

positive : (xs : List ℕ) → All (λ byte. 0 < byte) xs → list_all (nat_lt 0) xs ≡ true
positive [] all = refl
positive (x ∷ xs) all =
    let one = All-head (λ byte. 0 < byte) x xs all in
    let is : nat_lt 0 x ≡ true = grind arith in
    rw is (positive xs (All-tail (λ byte. 0 < byte) x xs all))

are_positive : (xs : List ℕ) → list_all (nat_lt 0) xs ≡ true → All (λ byte. 0 < byte) xs
are_positive [] h = All-nil (λ byte. 0 < byte)
are_positive (x ∷ xs) h =
    let parts = and_parts (nat_lt 0 x) (list_all (nat_lt 0) xs) h in
    let first = parts.0 in
    let is : 0 < x = grind arith in
    All-cons (λ byte. 0 < byte) x xs is (are_positive xs parts.1)

pub name_good : (name : List ℕ) → IsDatabaseName name → is_name name ≡ true
name_good name is =
    let some = is.some in
    let room = is.room in
    let low : nat_lt 0 (length name) ≡ true = grind arith in
    let high : nat_lt (length name) 32 ≡ true = grind arith in
    rw (low, high) (positive name is.none_zero)

split : (name : List ℕ) (a b c : Bool) → a ≡ nat_lt 0 (length name) → b ≡ nat_lt (length name) 32
    → c ≡ list_all (nat_lt 0) name → a && b && c ≡ true → IsDatabaseName name
split name true true true low high all h = record {
  some = let l = low in grind arith;
  room = let l = high in grind arith;
  none_zero = are_positive name (sym all);
}
split name true true false low high all h = absurd cc
split name true false c low high all h = absurd cc
split name false b c low high all h = absurd cc

name_is : (name : List ℕ) → is_name name ≡ true → IsDatabaseName name
name_is name h = split name (nat_lt 0 (length name)) (nat_lt (length name) 32)
    (list_all (nat_lt 0) name) refl refl refl h

-- the name that was made of a text, if it is one
pub name_tried : (made : Option (List ℕ)) (text bytes : List ℕ) → bytes ≡ text
    → SomeIff made (IsDatabaseName bytes) bytes → made ≡ name_if text
name_tried (Some name) text bytes same is =
    rw (rw same at (name_good _ is.0)) (ap Some (is.1 ∙ same))
name_tried None text bytes same none = by_name (is_name text) refl where
  by_name : (v : Bool) → is_name text ≡ v → None ≡ name_if text
  by_name true is = absurd (none (subst IsDatabaseName (sym same) (name_is text is)))
  by_name false is = rw is refl
