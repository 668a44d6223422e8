-- Ranks in list order: none is lower than the one before it.
use Rattle.file_parts.proofs.AllWords.{◌≡◌, ℕ, suc, ◌-◌, ◌<◌, ◌≤◌, true, false, List, [], ◌∷◌, length, get_or, refl, sym, ap, le-leb, subst, ◌∙◌, arith, inl, inr, nat_lt, cases_lt, lt-ltb, ltb-true, is_rising}
use Rattle.file_parts.proofs.ExactRanks.{not_true, rising_at, true_false}

pub rising_all : (xs : List ℕ) → ((i : ℕ) → suc i < length xs → get_or xs i 0 ≤ get_or xs (suc i) 0)
    → is_rising xs ≡ true
rising_all [] each = refl
rising_all (x ∷ []) each = refl
rising_all (x ∷ y ∷ ys) each = rw (le-leb x y (each 0 (omega arith)))
    (rising_all (y ∷ ys) (λ i inside. each (suc i) (omega arith)))

pub rising_breaks : (xs : List ℕ) (i : ℕ) → suc i < length xs → get_or xs (suc i) 0 < get_or xs i 0
    → is_rising xs ≡ false
rising_breaks xs i inside lower = not_true (is_rising xs)
    (λ rising. omega (arith, rising_at xs i (suc i) rising (omega arith) inside))

-- a rank is tested against the one before it
pub lower_breaks : (xs : List ℕ) (i : ℕ) → 0 < i → i < length xs
    → nat_lt (get_or xs i 0) (get_or xs (i - 1) 0) ≡ true → is_rising xs ≡ false
lower_breaks xs i above inside lower =
    let k : ℕ = i - 1 in
    let next : i ≡ suc k = omega arith in
    let less = ltb-true (get_or xs i 0) (get_or xs k 0) lower in
    rising_breaks xs k (omega arith) (subst (λ j. get_or xs j 0 < get_or xs k 0) next less)

pub not_lower : (xs : List ℕ) (i k : ℕ) → i ≡ suc k
    → nat_lt (get_or xs i 0) (get_or xs (i - 1) 0) ≡ false → get_or xs k 0 ≤ get_or xs (suc k) 0
not_lower xs i k next fails =
    let before : i - 1 ≡ k = omega arith in
    let here = ap (λ j. get_or xs j 0) next in
    let there = ap (λ j. get_or xs j 0) before in
    elim (cases_lt (get_or xs (suc k) 0) (get_or xs k 0)) [
      | inl less ↦ absurd
          (true_false (sym (lt-ltb (get_or xs i 0) (get_or xs (i - 1) 0) (omega arith)) ∙ fails))
      | inr most ↦ most
    ]
