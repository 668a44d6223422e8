-- The item at each index of a list that a function of the index gives is the function's value.
use Rattle.store_check.proofs.Terms.{◌≡◌, ℕ, ◌<◌, length, get_or, sym, subst, ◌∙◌, arith, All, times, Distinct, numbered, times-some, contained-times}
use Rattle.std.proofs.lemmas.List.FromFn.{length-map-range_with_len, get_or-map-range_with_len}

pub length-numbered : {X : Type 0} (each : ℕ → X) (n : ℕ) → length (numbered each n) ≡ n
length-numbered each n = length-map-range_with_len each 0 n

pub numbered_at : {X : Type 0} (each : ℕ → X) (n k : ℕ) (d : X) → k < n
    → get_or (numbered each n) k d ≡ each k
numbered_at each n k d below = get_or-map-range_with_len each 0 n k k d below (omega arith)

pub all_numbered : {X : Type 0} (P : X → Type 0) (each : ℕ → X) (n : ℕ)
    → ((k : ℕ) → k < n → P (each k)) → All P (numbered each n)
all_numbered P each n holds k d below =
    let len = length-numbered each n in
    let less : k < n = omega arith in
    subst P (sym (numbered_at each n k d less)) (holds k less)

pub numbered_all : {X : Type 0} (P : X → Type 0) (each : ℕ → X) (n : ℕ) → All P (numbered each n)
    → (k : ℕ) → k < n → P (each k)
numbered_all P each n all k below = let len = length-numbered each n in
    subst P (numbered_at each n k (each k) below) (all k (each k) (omega arith))

pub distinct_numbered : {X : Type 0} (each : ℕ → X) (n : ℕ)
    → ((i j : ℕ) → i < n → j < i → each j ≡ each i → ⊥) → Distinct (numbered each n)
distinct_numbered each n apart i j d less below e =
    let len = length-numbered each n in
    let last : j < n = omega arith in
    let first : i < n = omega arith in
    apart j i last less (sym (numbered_at each n i d first) ∙ e ∙ numbered_at each n j d last)

pub numbered_distinct : {X : Type 0} (each : ℕ → X) (n : ℕ) → Distinct (numbered each n) → (i j : ℕ)
    → i < n → j < i → each j ≡ each i → ⊥
numbered_distinct each n distinct i j below less e =
    let len = length-numbered each n in
    let first : j < n = omega arith in
    distinct j i (each i) less (omega arith)
    (numbered_at each n j (each i) first ∙ e ∙ sym (numbered_at each n i (each i) below))

-- ---- numbers

-- a number that stands in the list is that of an index
pub times_index : (each : ℕ → ℕ) (q n : ℕ) → 0 < times q (numbered each n)
    → (k : ℕ) × (k < n) × (each k ≡ q)
times_index each q n some =
    let c = contained-times q (numbered each n) some in
    let len = length-numbered each n in
    let inside = c.1 in
    let below : c.0 < n = omega arith in
    (c.0, below, sym (numbered_at each n c.0 q below) ∙ c.2)

pub index_times : (each : ℕ → ℕ) (q n k : ℕ) → k < n → each k ≡ q → 0 < times q (numbered each n)
index_times each q n k below e = let len = length-numbered each n in
    times-some q (numbered each n) k q (omega arith) (numbered_at each n k q below ∙ e)
