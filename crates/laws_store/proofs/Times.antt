-- How often a number stands in a list, and what this says of its elements.
use Rattle.laws_store.proofs.Words.{◌≡◌, ◌≢◌, ℕ, zero, suc, ◌+◌, ◌<◌, ◌≤◌, cond, List, [], ◌∷◌, ◌++◌, length, map, get_or, refl, sym, arith, inl, inr, cases_eq, cases_order, eq-eqb, ne_eqb, All-nil, All-cons, All-head, All-tail, All-append, All-contains, AllPairs-cons, sum_by-cons, sum_by-append, sum_by-remove, get_or-le-sum_by, ◌==◌, All, Contains, flat_map, remove, same, times, Distinct, Least, LeastPair, cond-true, cond-false}

-- ---- counts

pub same-yes : (one other : ℕ) → one ≡ other → same one other ≡ 1
same-yes one other e = cond-true (one == other) 1 0 (eq-eqb one other e)

pub same-no : (one other : ℕ) → one ≢ other → same one other ≡ 0
same-no one other ne = cond-false (one == other) 1 0 (ne_eqb one other ne)

pub times-cons : (q x : ℕ) (xs : List ℕ) → times q (x ∷ xs) ≡ same x q + times q xs
times-cons q x xs = sum_by-cons (λ (y : ℕ). cond (y == q) 1 0) x xs

pub times-append : (q : ℕ) (xs ys : List ℕ) → times q (xs ++ ys) ≡ times q xs + times q ys
times-append q xs ys = sum_by-append (λ (y : ℕ). cond (y == q) 1 0) xs ys

pub times-remove : (q : ℕ) (xs : List ℕ) (i d : ℕ) → i < length xs
    → times q (remove xs i) + same (get_or xs i d) q ≡ times q xs
times-remove q xs i d below = sum_by-remove (λ (y : ℕ). cond (y == q) 1 0) xs i d below

-- ---- what stands in a list

pub times-some : (q : ℕ) (xs : List ℕ) (k d : ℕ) → k < length xs → get_or xs k d ≡ q
    → 0 < times q xs
times-some q xs k d below e =
    let one = same-yes (get_or xs k d) q e in
    let least = get_or-le-sum_by (λ (y : ℕ). cond (y == q) 1 0) xs k d below in
    omega arith

pub times-contained : (q : ℕ) (xs : List ℕ) → Contains xs q → 0 < times q xs
times-contained q xs c = times-some q xs c.0 q c.1 c.2

pub contained-times : (q : ℕ) (xs : List ℕ) → 0 < times q xs → Contains xs q
contained-times q [] some = absurd (omega arith)
contained-times q (x ∷ xs) some = elim (cases_eq x q) [
  | inl e ↦ (0, omega arith, e)
  | inr ne ↦ let cons = times-cons q x xs in
      let no = same-no x q ne in
      let c = contained-times q xs (omega arith) in
      (suc c.0, (let below = c.1 in omega arith), c.2)
]

pub all-times : (P : ℕ → Type 0) (xs : List ℕ) → All P xs → (q : ℕ) → 0 < times q xs → P q
all-times P xs all q some = All-contains P xs q all (contained-times q xs some)

pub times-all : (P : ℕ → Type 0) (xs : List ℕ) → ((q : ℕ) → 0 < times q xs → P q) → All P xs
times-all P xs each k d below = each (get_or xs k d) (times-some (get_or xs k d) xs k d below refl)

-- ---- lists without a number twice

pub Distinct-head : {X : Type 0} (x : X) (xs : List X) → Distinct (x ∷ xs) → All (λ y. x ≢ y) xs
Distinct-head x xs distinct k d below = distinct 0 (suc k) d (omega arith) (omega arith)

pub Distinct-tail : {X : Type 0} (x : X) (xs : List X) → Distinct (x ∷ xs) → Distinct xs
Distinct-tail x xs distinct i j d less below =
    distinct (suc i) (suc j) d (omega arith) (omega arith)

pub distinct-times : (xs : List ℕ) → Distinct xs → (q : ℕ) → times q xs ≤ 1
distinct-times [] distinct q = omega arith
distinct-times (x ∷ xs) distinct q =
    let cons = times-cons q x xs in
    elim (cases_eq x q) [
      | inl e ↦ let one = same-yes x q e in
          let none : 0 < times q xs → ⊥ = λ some. All-contains (λ y. x
          ≢ y) xs q (Distinct-head x xs distinct) (contained-times q xs some) e in
          elim (cases_eq (times q xs) 0) [
            | inl zero_is ↦ omega arith
            | inr more ↦ absurd (none (omega arith))
          ]
      | inr ne ↦
          let no = same-no x q ne in
          let ih = distinct-times xs (Distinct-tail x xs distinct) q in
          omega arith
    ]

pub times-distinct : (xs : List ℕ) → ((q : ℕ) → times q xs ≤ 1) → Distinct xs
times-distinct [] once = λ i j d less below. absurd (omega arith)
times-distinct (x ∷ xs) once = AllPairs-cons (λ one other. one ≢ other) x xs
    (λ k d below e.
    let cons = times-cons x x xs in
    let here = same-yes x x refl in
    let there = times-some x xs k d below (sym e) in
    let most = once x in
    omega arith)
    (times-distinct xs (λ q. let cons = times-cons q x xs in let most = once q in omega arith))

-- ---- lists that are put together

pub All-flat_map : {X : Type 0} (P : ℕ → Type 0) (f : X → List ℕ) (xs : List X)
    → All (λ x. All P (f x)) xs → All P (flat_map f xs)
All-flat_map P f [] all = All-nil P
All-flat_map P f (x ∷ xs) all = All-append P (f x) (flat_map f xs) (All-head
    (λ y. All P (f y)) x xs all) (All-flat_map P f xs (All-tail (λ y. All P (f y)) x xs all))

All-left : (P : ℕ → Type 0) (xs ys : List ℕ) → All P (xs ++ ys) → All P xs
All-left P [] ys all = All-nil P
All-left P (x ∷ xs) ys all =
    All-cons P x xs (All-head P x (xs ++ ys) all) (All-left P xs ys (All-tail P x (xs ++ ys) all))

All-right : (P : ℕ → Type 0) (xs ys : List ℕ) → All P (xs ++ ys) → All P ys
All-right P [] ys all = all
All-right P (x ∷ xs) ys all = All-right P xs ys (All-tail P x (xs ++ ys) all)

pub flat_map-All : {X : Type 0} (P : ℕ → Type 0) (f : X → List ℕ) (xs : List X)
    → All P (flat_map f xs) → All (λ x. All P (f x)) xs
flat_map-All P f [] all = All-nil (λ y. All P (f y))
flat_map-All P f (x ∷ xs) all = All-cons (λ y. All P (f y)) x xs (All-left P (f x)
    (flat_map f xs) all) (flat_map-All P f xs (All-right P (f x) (flat_map f xs) all))

pub map-All : {X Y : Type 0} (P : Y → Type 0) (f : X → Y) (xs : List X) → All P (map f xs)
    → All (λ x. P (f x)) xs
map-All P f [] all = All-nil (λ x. P (f x))
map-All P f (x ∷ xs) all = All-cons (λ y. P (f y)) x xs (All-head P (f x) (map f xs) all)
    (map-All P f xs (All-tail P (f x) (map f xs) all))

-- ---- least numbers

-- there is one least number at most
pub least_once : (P : ℕ → Type 0) (m n : ℕ) → Least P m → Least P n → m ≡ n
least_once P m n l k = elim (cases_order m n) [
  | inl e ↦ e
  | inr other ↦ elim other [
    | inl less ↦ absurd (k.none_below m less l.here)
    | inr more ↦ absurd (l.none_below n more k.here)
  ]
]

-- where no number is the least, there is none
pub no_least : (P : ℕ → Type 0) → ((n : ℕ) → Least P n → ⊥) → (n : ℕ) → P n → ⊥
no_least P none n p = below (suc n) n (omega arith) p where
  below : (bound m : ℕ) → m < bound → P m → ⊥
  below zero m less q = absurd (omega arith)
  below (suc bound) m less q =
      none m (record { here = q; none_below = λ k smaller r. below bound k (omega arith) r })

pub no_least_pair : (P : ℕ → ℕ → Type 0) → ((m n : ℕ) → LeastPair P m n → ⊥) → (m n : ℕ) → P m n → ⊥
no_least_pair P none m n p = below (suc m) m (omega arith) n p where
  below : (bound k : ℕ) → k < bound → (j : ℕ) → P k j → ⊥
  below zero k less j q = absurd (omega arith)
  below (suc bound) k less j q = no_least (P k) (λ i l. none k i (record {
    here = l.here;
    none_before = λ e smaller i r. below bound e (omega arith) i r;
    none_below = l.none_below;
  })) j q
