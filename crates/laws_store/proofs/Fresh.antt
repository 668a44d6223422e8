-- Fresh unique IDs: there is one wherever fewer records are there than IDs, and one alone.
use Rattle.laws_store.proofs.Words.{◌≡◌, ◌≢◌, ℕ, zero, suc, ◌+◌, ◌%◌, ◌<◌, ◌≤◌, List, [], ◌∷◌, length, get_or, refl, sym, ap, subst, ◌∙◌, arith, inl, inr, cases_eq, cases_lt, lt-ltb, le-ltb, length-remove, length-map-range_with_len, get_or-map-range_with_len, All, remove, numbered, times, Distinct, next_id, id_behind, IsFresh, cond-true, cond-false}
use Rattle.laws_store.proofs.Times.{same-no, times-remove, contained-times, Distinct-tail, Distinct-head, least_once}

-- ---- IDs after a seed

next_is : (n : ℕ) → n ≤ 0xFFFFFF → next_id n ≡ n % 0xFFFFFF + 1
next_is n most = elim (cases_lt n 0xFFFFFF) [
  | inl less ↦ let e = cond-true _ (n + 1) 1 (lt-ltb n 0xFFFFFF less) in omega arith
  | inr past ↦ let e = cond-false _ (n + 1) 1 (le-ltb n 0xFFFFFF past) in omega arith
]

pub id_behind_is : (seed n : ℕ) → seed ≤ 0xFFFFFF → id_behind seed n ≡ (seed + n) % 0xFFFFFF + 1
id_behind_is seed zero most = let e = next_is seed most in omega arith
id_behind_is seed (suc n) most =
    let ih = id_behind_is seed n most in
    let e = next_is (id_behind seed n) (omega arith) in
    omega arith

pub id_behind_fits : (seed n : ℕ) → seed ≤ 0xFFFFFF
    → (0 < id_behind seed n) × (id_behind seed n ≤ 0xFFFFFF)
id_behind_fits seed n most = let e = id_behind_is seed n most in (omega arith, omega arith)

behind_apart : (seed i j : ℕ) → seed ≤ 0xFFFFFF → i < j → j < 0xFFFFFF
    → id_behind seed i ≢ id_behind seed j
behind_apart seed i j most less below e =
    let a = id_behind_is seed i most in
    let b = id_behind_is seed j most in
    omega arith

-- ---- more different numbers than a list is long are not all in it

pub distinct_within : (xs ys : List ℕ) → Distinct xs → All (λ x. 0 < times x ys) xs
    → length xs ≤ length ys
distinct_within [] ys distinct all = omega arith
distinct_within (x ∷ xs) ys distinct all =
    let here = contained-times x ys (all 0 x (omega arith)) in
    let k : ℕ = here.0 in
    let out = length-remove ys k here.1 in
    let rest : All (λ q. 0 < times q (remove ys k)) xs = λ i d below. (
    let q : ℕ = get_or xs i d in
    let some = all (suc i) d (omega arith) in
    let apart = Distinct-head x xs distinct i d below in
    let gone = times-remove q ys k x here.1 in
    let other = same-no (get_or ys k x) q (λ e. apart (sym here.2 ∙ e)) in
    omega arith) in
    let ih = distinct_within xs (remove ys k) (Distinct-tail x xs distinct) rest in
    omega arith

-- ---- there is one, and one alone

candidates : ℕ → ℕ → List ℕ
candidates seed n = numbered (id_behind seed) n

candidates_distinct : (seed n : ℕ) → seed ≤ 0xFFFFFF → n ≤ 0xFFFFFF → Distinct (candidates seed n)
unfolding candidates
candidates_distinct seed n most few i j d less below e =
    let len = length-map-range_with_len (id_behind seed) 0 n in
    let a = get_or-map-range_with_len (id_behind seed) 0 n i i d (omega arith) (omega arith) in
    let b = get_or-map-range_with_len (id_behind seed) 0 n j j d (omega arith) (omega arith) in
    behind_apart seed i j most less (omega arith) (sym a ∙ e ∙ b)

pub fresh_exists : (ids : List ℕ) (seed : ℕ) → seed ≤ 0xFFFFFF → length ids < 0xFFFFFF
    → ((n : ℕ) → n ≤ length ids → 0 < times (id_behind seed n) ids) → ⊥
unfolding candidates
fresh_exists ids seed most few every =
    let n : ℕ = length ids + 1 in
    let len = length-map-range_with_len (id_behind seed) 0 n in
    let all : All (λ id. 0 < times id ids) (candidates seed n) = λ k d below. (
    let is = get_or-map-range_with_len (id_behind seed) 0 n k k d (omega arith) (omega arith) in
    let some = every k (omega arith) in
    subst (λ (id : ℕ). 0 < times id ids) (sym is) some) in
    let least = distinct_within _ ids (candidates_distinct seed n most (omega arith)) all in
    omega arith

pub fresh_once : (ids : List ℕ) (seed one other : ℕ) → IsFresh ids seed one → IsFresh ids seed other
    → one ≡ other
fresh_once ids seed one other f g =
    let same_step =
    least_once (λ count. times (id_behind seed count) ids ≡ 0) f.behind g.behind f.first g.first in
    f.is ∙ ap (id_behind seed) same_step ∙ sym g.is

-- it is one that no record has
pub fresh_fits : (ids : List ℕ) (seed id : ℕ) → seed ≤ 0xFFFFFF → IsFresh ids seed id
    → (0 < id) × (id ≤ 0xFFFFFF) × (times id ids ≡ 0)
fresh_fits ids seed id most f =
    let fits = id_behind_fits seed f.behind most in
    let e = f.is in
    (rw e fits.0, rw e fits.1, ap (λ (n : ℕ). times n ids) e ∙ f.first.here)

search_from : (ids : List ℕ) (seed left k : ℕ) → seed ≤ 0xFFFFFF → length ids < 0xFFFFFF
    → left + k ≡ length ids + 1 → ((n : ℕ) → n < k → times (id_behind seed n) ids ≡ 0 → ⊥)
    → (id : ℕ) × IsFresh ids seed id
search_from ids seed zero k most few all none = absurd (fresh_exists ids seed most few (λ n low. (
    let no = none n (omega arith) in
    elim (cases_lt 0 (times (id_behind seed n) ids)) [
      | inl some ↦ some
      | inr past ↦ absurd (no (omega arith))
    ])))
search_from ids seed (suc left) k most few all none =
    elim (cases_eq (times (id_behind seed k) ids) 0) [
      | inl free ↦ (
        id_behind seed k,
        record { behind = k; first = record { here = free; none_below = none }; is = refl },
      )
      | inr taken ↦ search_from ids seed left (suc k) most few (omega arith)
          (λ n low free. elim (cases_lt n k) [
            | inl less ↦ none n less free
            | inr last ↦
                let e : n ≡ k = omega arith in
                taken (sym (ap (λ i. times (id_behind seed i) ids) e) ∙ free)
          ])
    ]

pub one_fresh : (ids : List ℕ) (seed : ℕ) → seed ≤ 0xFFFFFF → length ids < 0xFFFFFF
    → (id : ℕ) × IsFresh ids seed id
one_fresh ids seed most few =
    search_from ids seed (length ids + 1) 0 most few (omega arith) (λ n low. absurd (omega arith))
