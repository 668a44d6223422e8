-- Numbers and the bytes that they stand in, both ways; and lists that a function of the index
-- gives.
use Rattle.laws_store.proofs.Words.{◌≡◌, ℕ, zero, suc, ◌+◌, ◌*◌, ◌^◌, ◌<◌, ◌≤◌, List, [], ◌∷◌, ◌++◌, length, get_or, take, drop, refl, sym, ap, ◌∙◌, arith, length-take, length-drop, inl, inr, cases_order, cases_lt, append-nil, get_or-take, get_or-drop, get_or_past, drop-drop, drop_at, map-range_with_len_more, big_from, big_bytes, big_from-cons, big_from-take, big_from-lt, big_number-reads_back, length-bytes_high_first, AreBytes, numbered}
use Rattle.std.proofs.Math.Nat.{add-mul, mul-le-mul_right}
use Rattle.std.specs.Int.{byte_at, bytes_high_first}

-- ---- lists by index

pub numbered_more : {X : Type 0} (each : ℕ → X) (n : ℕ)
    → numbered each (suc n) ≡ numbered each n ++ each n ∷ []
numbered_more each n =
    let e : suc n ≡ n + 1 = omega arith in
    ap (numbered each) e ∙ map-range_with_len_more each 0 n n (omega arith)

-- ---- numbers after others

pub big_from-drop : (i n k : ℕ) (xs : List ℕ) → big_from i n (drop k xs) ≡ big_from (k + i) n xs
big_from-drop i zero k xs = refl
big_from-drop i (suc n) k xs =
    let rest = big_from-drop (suc i) n k xs in
    let e : k + suc i ≡ suc (k + i) = omega arith in
    rw (get_or-drop k xs i 0, rest, e) refl

pub big_from-behind : (k n i : ℕ) (front back : List ℕ) → length front ≡ k
    → big_from (k + i) n (front ++ back) ≡ big_from i n back
big_from-behind k n i front back len =
    sym (big_from-drop i n k (front ++ back)) ∙ ap (big_from i n) (drop_at front back k len)

-- ---- a number has one spelling in bytes

AreBytes-tail : (x : ℕ) (xs : List ℕ) → AreBytes (x ∷ xs) → AreBytes xs
AreBytes-tail x xs bytes k = bytes (suc k)

pub AreBytes-slice : (at n : ℕ) (bs : List ℕ) → AreBytes bs → AreBytes (take n (drop at bs))
AreBytes-slice at n bs bytes k = elim (cases_lt k n) [
  | inl less ↦
      let e = get_or-take n (drop at bs) k 0 less ∙ get_or-drop at bs k 0 in
      let small = bytes (at + k) in
      omega arith
  | inr past ↦
      let l = length-take n (drop at bs) in
      let e = get_or_past (take n (drop at bs)) k 0 (omega arith) in
      omega arith
]

byte_at-lt : (k x : ℕ) → byte_at k x < 256
byte_at-lt zero x = omega arith
byte_at-lt (suc k) x = omega arith

AreBytes-big : (n x : ℕ) → AreBytes (bytes_high_first n x)
AreBytes-big zero x k = omega arith
AreBytes-big (suc n) x zero = byte_at-lt n x
AreBytes-big (suc n) x (suc k) = AreBytes-big n x k

-- a greater digit makes a greater number
greater_digit : (x y unit r s : ℕ) → r < unit → x < y → x * unit + r ≡ y * unit + s → ⊥
greater_digit x y unit r s below less e =
    let next : (x + 1) * unit ≤ y * unit = mul-le-mul_right unit (omega arith) in
    let parts : (x + 1) * unit ≡ x * unit + 1 * unit = add-mul x 1 unit in
    let one : 1 * unit ≡ unit = omega arith in
    omega arith

same_digit : (x y unit r s : ℕ) → r < unit → s < unit → x * unit + r ≡ y * unit + s → x ≡ y
same_digit x y unit r s low high e = elim (cases_order x y) [
  | inl same ↦ same
  | inr other ↦ elim other [
    | inl less ↦ absurd (greater_digit x y unit r s low less e)
    | inr more ↦ absurd (greater_digit y x unit s r high more (sym e))
  ]
]

onto : ℕ → List ℕ → List ℕ
onto x xs = x ∷ xs

big_from-once : (n : ℕ) (xs ys : List ℕ) → length xs ≡ n → length ys ≡ n → AreBytes xs → AreBytes ys
    → big_from 0 n xs ≡ big_from 0 n ys → xs ≡ ys
unfolding onto
big_from-once zero [] [] a b p q e = refl
big_from-once zero [] (y ∷ ys) a b p q e = absurd (omega arith)
big_from-once zero (x ∷ xs) ys a b p q e = absurd (omega arith)
big_from-once (suc n) [] ys a b p q e = absurd (omega arith)
big_from-once (suc n) (x ∷ xs) [] a b p q e = absurd (omega arith)
big_from-once (suc n) (x ∷ xs) (y ∷ ys) a b p q e =
    let left = big_from-cons 0 n x xs in
    let right = big_from-cons 0 n y ys in
    let whole = sym (ap (λ r. x * 256 ^ n + r) left) ∙ e ∙ ap (λ r. y * 256 ^ n + r) right in
    let first = same_digit x y (256 ^ n) (big_from 0 n xs) (big_from 0 n ys)
    (big_from-lt 0 n xs (AreBytes-tail x xs p)) (big_from-lt 0 n ys (AreBytes-tail y ys q)) whole in
    let units : x * 256 ^ n ≡ y * 256 ^ n = ap (λ (z : ℕ). z * 256 ^ n) first in
    ap (λ z. z ∷ xs) first ∙ ap (onto y) (big_from-once n xs ys (omega arith) (omega arith)
    (AreBytes-tail x xs p) (AreBytes-tail y ys q) (omega arith))

-- ---- the bytes of a number that was read

pub read_bytes : (n at : ℕ) (bs : List ℕ) → AreBytes bs → at + n ≤ length bs
    → big_bytes n (big_from at n bs) ≡ take n (drop at bs)
read_bytes n at bs bytes inside =
    let number : ℕ = big_from at n bs in
    let back = sym (ap (big_from 0 n) (append-nil (bytes_high_first n number)))
    ∙ big_number-reads_back n number [] (big_from-lt at n bs bytes) in
    let here = big_from-take 0 n n (drop at bs) (omega arith) ∙ big_from-drop 0 n at bs
    ∙ (let z : at + 0 ≡ at = omega arith in ap (λ i. big_from i n bs) z) in
    let l = length-take n (drop at bs) in
    let d = length-drop at bs in
    big_from-once n (bytes_high_first n number) (take n (drop at bs)) (length-bytes_high_first n
    number) (omega arith) (AreBytes-big n number) (AreBytes-slice at n bs bytes) (back ∙ sym here)

empty : List ℕ
empty = []

-- a front, and the next part
pub take_both : (n m : ℕ) (xs : List ℕ) → take n xs ++ take m (drop n xs) ≡ take (n + m) xs
unfolding onto empty
take_both zero m xs = let e : 0 + m ≡ m = omega arith in sym (ap (λ (k : ℕ). take k xs) e)
take_both (suc n) m [] =
    let e : suc n + m ≡ suc (n + m) = omega arith in
    none m ∙ sym (ap (λ k. take k empty) e) where
      none : (m : ℕ) → take m empty ≡ empty
      none zero = refl
      none (suc m) = refl
take_both (suc n) m (x ∷ xs) =
    let e : suc n + m ≡ suc (n + m) = omega arith in
    ap (onto x) (take_both n m xs) ∙ sym (ap (λ k. take k (x ∷ xs)) e)

-- two slices, one after the other
pub slices_join : (n m at : ℕ) (bs : List ℕ)
    → take n (drop at bs) ++ take m (drop (at + n) bs) ≡ take (n + m) (drop at bs)
slices_join n m at bs = ap (λ xs. take n (drop at bs) ++ take m xs) (sym (drop-drop n at bs))
    ∙ take_both n m (drop at bs)

-- the bytes of a number that was read before a slice
pub number_in_front : (n m at : ℕ) (bs rest : List ℕ) → AreBytes bs → at + n ≤ length bs
    → rest ≡ take m (drop (at + n) bs)
    → big_bytes n (big_from at n bs) ++ rest ≡ take (n + m) (drop at bs)
number_in_front n m at bs rest bytes inside e =
    ap (λ xs. xs ++ rest) (read_bytes n at bs bytes inside) ∙ ap (λ xs. take n (drop at bs) ++ xs) e
    ∙ slices_join n m at bs

-- one byte before a slice
pub byte_in_front : (m at : ℕ) (bs rest : List ℕ) → at < length bs
    → rest ≡ take m (drop (at + 1) bs) → get_or bs at 0 ∷ rest ≡ take (1 + m) (drop at bs)
byte_in_front m at bs rest inside e =
    ap (λ xs. xs ++ rest) (one (drop at bs) (let l = length-drop at bs in omega arith)
    (get_or-drop at bs 0 0 ∙ (let z : at + 0 ≡ at = omega arith in ap (λ i. get_or bs i 0) z)))
    ∙ ap (λ (xs : List ℕ). take 1 (drop at bs) ++ xs) e ∙ slices_join 1 m at bs where
      one : (xs : List ℕ) → 0 < length xs → get_or xs 0 0 ≡ get_or bs at 0
          → get_or bs at 0 ∷ [] ≡ take 1 xs
      one [] some e = absurd (omega arith)
      one (x ∷ xs) some e = ap (λ (y : ℕ). y ∷ []) (sym e)
