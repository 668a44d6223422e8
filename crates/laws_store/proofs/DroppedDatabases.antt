-- A database that goes: its slot is taken out of those that are listed.
use Rattle.laws_store.proofs.Words.{◌≡◌, ℕ, suc, ◌+◌, ◌-◌, ◌*◌, ◌/◌, ◌≤◌, List, [], ◌∷◌, ◌++◌, length, take, drop, replicate, sym, ap, ◌∙◌, arith, length-append, length-take, length-drop, take-append_seam, drop-append-add, append-nil, take-append-drop, drop-drop, take_all, length-map-range_with_len, slice_range, remove, u32_at, overwritten, sized_to, numbered, u32s_in}
use Rattle.laws_store.proofs.NewDatabases.{u32s_join}

u32s_length : (bytes : List ℕ) (n : ℕ) → length bytes ≡ 4 * n → length (u32s_in bytes) ≡ n
u32s_length bytes n len =
    let e : length bytes / 4 ≡ n = omega arith in
    length-map-range_with_len (λ k. u32_at bytes (4 * k)) 0 (length bytes / 4) ∙ e

remove_seam : (xs : List ℕ) (x : ℕ) (ys : List ℕ) → remove (xs ++ x ∷ ys) (length xs) ≡ xs ++ ys
remove_seam xs x ys = (let e : suc (length xs) ≡ length xs + 1 = omega arith in
    ap (λ k. take (length xs) (xs ++ x ∷ ys) ++ drop k (xs ++ x ∷ ys)) e)
    ∙ ap (λ (zs : List ℕ). zs ++ drop (length xs + 1) (xs ++ x ∷ ys)) (take-append_seam xs (x ∷ ys))
    ∙ ap (λ (zs : List ℕ). xs ++ zs) (drop-append-add xs (x ∷ ys) 1)

-- a slot is taken out
pub u32s_remove : (bytes : List ℕ) (i : ℕ) → 4 * i + 4 ≤ length bytes
    → u32s_in (take (4 * i) bytes ++ drop (4 * i + 4) bytes) ≡ remove (u32s_in bytes) i
u32s_remove bytes i inside =
    let front : List ℕ = take (4 * i) bytes in
    let word : List ℕ = take 4 (drop (4 * i) bytes) in
    let back : List ℕ = drop (4 * i + 4) bytes in
    let front_size = length-take (4 * i) bytes in
    let behind_size = length-drop (4 * i) bytes in
    let word_size = length-take 4 (drop (4 * i) bytes) in
    let in_front : length front ≡ 4 * i = omega arith in
    let four : length word ≡ 4 * 1 = omega arith in
    let parts : bytes ≡ front ++ (word ++ back) =
    sym (take-append-drop (4 * i) bytes)
    ∙ ap (λ xs. front ++ xs) (sym (take-append-drop 4 (drop (4 * i) bytes))
    ∙ ap (λ xs. word ++ xs) (drop-drop 4 (4 * i) bytes)) in
    let one : u32s_in word ≡ u32_at word (4 * 0) ∷ [] =
    (let e : length word / 4 ≡ 1 = omega arith in ap (numbered (λ k. u32_at word (4 * k))) e) in
    let all : u32s_in bytes ≡ u32s_in front ++ u32_at word (4 * 0) ∷ u32s_in back =
    ap (λ (xs : List ℕ). u32s_in xs) parts
    ∙ u32s_join front (word ++ back) i in_front
    ∙ ap (λ (xs : List ℕ). u32s_in front ++ xs) (u32s_join word back 1 four)
    ∙ ap (λ (xs : List ℕ). u32s_in front ++ (xs ++ u32s_in back)) one in
    let before : length (u32s_in front) ≡ i = u32s_length front i in_front in
    u32s_join front back i in_front
    ∙ sym (ap (λ (xs : List ℕ). remove xs i) all
    ∙ ap (remove (u32s_in front ++ u32_at word (4 * 0) ∷ u32s_in back)) (sym before)
    ∙ remove_seam (u32s_in front) (u32_at word (4 * 0)) (u32s_in back))

-- bytes that slide to the front over others, where the list ends after them
pub closed_up : (bytes : List ℕ) (at count : ℕ) → at + count ≤ length bytes
    → sized_to (overwritten bytes at (slice_range bytes (at + count) (length bytes)))
    (length bytes - count) ≡ take at bytes ++ drop (at + count) bytes
unfolding overwritten
closed_up bytes at count inside =
    let front : List ℕ = take at bytes in
    let back : List ℕ = drop (at + count) bytes in
    let front_size = length-take at bytes in
    let back_size = length-drop (at + count) bytes in
    let whole = take_all (length bytes - (at + count)) back (omega arith) in
    let both = length-append front back in
    let rest : List ℕ = drop (at + length back) bytes in
    let all : length (front ++ back) ≡ length bytes - count = omega arith in
    let bytes_are : front ++ take (length bytes - (at + count)) back ++ drop
    (at + length (take (length bytes - (at + count)) back)) bytes ≡ (front ++ back) ++ rest =
    ap (λ (xs : List ℕ). front ++ xs ++ drop (at + length xs) bytes) whole in
    ap (λ (xs : List ℕ). sized_to xs (length bytes - count)) bytes_are
    ∙ cut (front ++ back) rest (length bytes - count) all where
      cut : (xs ys : List ℕ) (n : ℕ) → length xs ≡ n → sized_to (xs ++ ys) n ≡ xs
      cut xs ys n len =
          let both = length-append xs ys in
          let none : n - length (xs ++ ys) ≡ 0 = omega arith in
          ap (λ (k : ℕ). take n (xs ++ ys) ++ replicate k 0) none
          ∙ append-nil (take n (xs ++ ys)) ∙ ap (λ k. take k (xs ++ ys)) (sym len)
          ∙ take-append_seam xs ys
