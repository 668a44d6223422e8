-- Numbers of four bytes, one after the other, as the directory has them: what is spelled is read,
-- and what is read is spelled.
use Rattle.laws_store.proofs.Words.{◌≡◌, ℕ, zero, suc, ◌+◌, ◌*◌, ◌/◌, ◌%◌, ◌^◌, ◌<◌, ◌≤◌, List, [], ◌∷◌, ◌++◌, length, get_or, take, refl, sym, ap, ◌∙◌, arith, length-append, append-nil, take_all, All-head, All-tail, fill_by_all, flat_map-append, All, flat_map, big_number-reads_back, u32_at, u32_bytes, AreBytes, numbered, u32s_in}
use Rattle.laws_heap.proofs.Frames.{length-u32_bytes}
use Rattle.laws_store.proofs.Numbers.{numbered_more, big_from-behind, take_both, read_bytes}

pub length-u32s : (xs : List ℕ) → length (flat_map u32_bytes xs) ≡ 4 * length xs
length-u32s [] = refl
length-u32s (x ∷ xs) =
    let ih = length-u32s xs in
    let one = length-u32_bytes x in
    let both = length-append (u32_bytes x) (flat_map u32_bytes xs) in
    omega arith

u32_first : (x : ℕ) (rest : List ℕ) → x < 2 ^ 32 → u32_at (u32_bytes x ++ rest) 0 ≡ x
unfolding u32_at u32_bytes
u32_first x rest fits = big_number-reads_back 4 x rest fits

u32_behind : (x at : ℕ) (rest : List ℕ) → u32_at (u32_bytes x ++ rest) (4 + at) ≡ u32_at rest at
unfolding u32_at
u32_behind x at rest = big_from-behind 4 4 at (u32_bytes x) rest (length-u32_bytes x)

u32_of : (xs : List ℕ) (i d : ℕ) → All (λ x. x < 2 ^ 32) xs → i < length xs
    → u32_at (flat_map u32_bytes xs) (4 * i) ≡ get_or xs i d
u32_of [] i d all below = absurd (omega arith)
u32_of (x ∷ xs) zero d all below = u32_first x _ (All-head (λ y. y < 2 ^ 32) x xs all)
u32_of (x ∷ xs) (suc i) d all below =
    let e : 4 * suc i ≡ 4 + 4 * i = omega arith in
    ap (u32_at (u32_bytes x ++ flat_map u32_bytes xs)) e
    ∙ u32_behind x (4 * i) (flat_map u32_bytes xs)
    ∙ u32_of xs i d (All-tail (λ y. y < 2 ^ 32) x xs all) (omega arith)

pub u32s_read : (xs : List ℕ) → All (λ x. x < 2 ^ 32) xs → u32s_in (flat_map u32_bytes xs) ≡ xs
u32s_read xs all =
    let bytes : List ℕ = flat_map u32_bytes xs in
    let len = length-u32s xs in
    let count : length bytes / 4 ≡ length xs = omega arith in
    ap (numbered (λ i. u32_at bytes (4 * i))) count ∙ sym (fill_by_all
    (λ i. u32_at bytes (4 * i)) xs (length xs) 0 refl (λ i below. sym (u32_of xs i 0 all below)))

u32s_upto : (bytes : List ℕ) (n : ℕ) → AreBytes bytes → 4 * n ≤ length bytes
    → flat_map u32_bytes (numbered (λ i. u32_at bytes (4 * i)) n) ≡ take (4 * n) bytes
unfolding u32_at u32_bytes
u32s_upto bytes zero b inside = refl
u32s_upto bytes (suc n) b inside =
    let each : ℕ → ℕ = λ i. u32_at bytes (4 * i) in
    let ih = u32s_upto bytes n b (omega arith) in
    let one = read_bytes 4 (4 * n) bytes b (omega arith) in
    let more : 4 * suc n ≡ 4 * n + 4 = omega arith in
    ap (flat_map u32_bytes) (numbered_more each n)
    ∙ flat_map-append u32_bytes (numbered each n) (each n ∷ [])
    ∙ ap (λ (xs : List ℕ). xs ++ flat_map u32_bytes (each n ∷ [])) ih
    ∙ ap (λ (xs : List ℕ). take (4 * n) bytes ++ xs) (append-nil (u32_bytes (each n)) ∙ one)
    ∙ take_both (4 * n) 4 bytes ∙ ap (λ (k : ℕ). take k bytes) (sym more)

pub u32s_back : (bytes : List ℕ) → AreBytes bytes → length bytes % 4 ≡ 0
    → flat_map u32_bytes (u32s_in bytes) ≡ bytes
u32s_back bytes b whole =
    let count : length bytes ≤ 4 * (length bytes / 4) = omega arith in
    u32s_upto bytes _ b (omega arith) ∙ take_all (4 * (length bytes / 4)) bytes count
