-- Lists related element by element are equally long; what a function gives of each element is a
-- list as long.
use Rattle.std.proofs.Common.{◌≡◌, ℕ, zero, suc, ◌+◌, ◌<◌, List, [], ◌∷◌, length, get_or, map, Option, Some, None, refl, ap, subst, ◌∙◌, arith}
use Rattle.std.specs.List.{AllZip, cons_option, filter_map, range_with_len}

pub zip_long : {A B : Type 0} (R : A → B → Type 0) (xs : List A) (ys : List B) → AllZip R xs ys
    → length xs ≡ length ys
zip_long R [] [] all = refl
zip_long R [] (y ∷ ys) all = absurd all
zip_long R (x ∷ xs) [] all = absurd all
zip_long R (x ∷ xs) (y ∷ ys) all = let long = zip_long R xs ys all.1 in omega arith

pub zip_at : {A B : Type 0} (R : A → B → Type 0) (xs : List A) (ys : List B) (k : ℕ) (d : A) (e : B)
    → AllZip R xs ys → k < length xs → R (get_or xs k d) (get_or ys k e)
zip_at R [] ys k d e all inside = absurd (omega arith)
zip_at R (x ∷ xs) [] k d e all inside = absurd all
zip_at R (x ∷ xs) (y ∷ ys) zero d e all inside = all.0
zip_at R (x ∷ xs) (y ∷ ys) (suc k) d e all inside = zip_at R xs ys k d e all.1 (omega arith)

-- what a function gives of the numbers from one on, element by element with a list
pub numbered_zip : {A B : Type 0} (R : A → B → Type 0) (f : ℕ → A) (ys : List B) (from count : ℕ)
    → length ys ≡ count → ((k : ℕ) (e : B) → k < count → R (f (from + k)) (get_or ys k e))
    → AllZip R (map f (range_with_len from count)) ys
numbered_zip R f [] from zero long each = tt
numbered_zip R f [] from (suc count) long each = absurd (omega arith)
numbered_zip R f (y ∷ ys) from zero long each = absurd (omega arith)
numbered_zip R f (y ∷ ys) from (suc count) long each =
    let first : from + 0 ≡ from = omega arith in (
      subst (λ (n : ℕ). R (f n) y) first (each 0 y (omega arith)),
      numbered_zip R f ys (from + 1) count (omega arith) (λ k e inside.
          let next : from + suc k ≡ from + 1 + k = omega arith in
          subst (λ (n : ℕ). R (f n) (get_or ys k e)) next (each (suc k) e (omega arith))),
    )

-- ---- what a function gives, if it gives something

pub all_given : {A : Type 0} (h : A → Option ℕ) (xs : List A) (ids : List ℕ)
    → length xs ≡ length ids
    → ((k : ℕ) (d : A) → k < length xs → h (get_or xs k d) ≡ Some (get_or ids k 0))
    → filter_map h xs ≡ ids
all_given h [] [] long each = refl
all_given h [] (id ∷ ids) long each = absurd (omega arith)
all_given h (x ∷ xs) [] long each = absurd (omega arith)
all_given h (x ∷ xs) (id ∷ ids) long each =
    ap (λ (o : Option ℕ). cons_option o (filter_map h xs)) (each 0 x (omega arith))
    ∙ ap (λ (more : List ℕ). id ∷ more)
    (all_given h xs ids (omega arith) (λ k d inside. each (suc k) d (omega arith)))

pub none_given : {A : Type 0} (h : A → Option ℕ) (xs : List A)
    → ((k : ℕ) (d : A) → k < length xs → h (get_or xs k d) ≡ None) → filter_map h xs ≡ []
none_given h [] each = refl
none_given h (x ∷ xs) each =
    ap (λ (o : Option ℕ). cons_option o (filter_map h xs)) (each 0 x (omega arith))
    ∙ none_given h xs (λ k d inside. each (suc k) d (omega arith))

one_given : (o : Option ℕ) (more : List ℕ) → (o ≡ None → ⊥)
    → length (cons_option o more) ≡ length more + 1
one_given None more some = absurd (some refl)
one_given (Some id) more some = omega arith

pub each_given : {A : Type 0} (h : A → Option ℕ) (xs : List A)
    → ((k : ℕ) (d : A) → k < length xs → h (get_or xs k d) ≡ None → ⊥)
    → length (filter_map h xs) ≡ length xs
each_given h [] each = refl
each_given h (x ∷ xs) each =
    let more = each_given h xs (λ k d inside. each (suc k) d (omega arith)) in
    let one = one_given (h x) (filter_map h xs) (each 0 x (omega arith)) in
    omega arith
