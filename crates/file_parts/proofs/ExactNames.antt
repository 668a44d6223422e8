-- The bytes after the name of a file.
use Rattle.file_parts.proofs.AllWords.{◌≡◌, ℕ, suc, ◌+◌, ◌-◌, ◌<◌, ◌≤◌, Bool, true, false, None, List, [], ◌∷◌, ◌++◌, length, get_or, take, refl, sym, ap, subst, ◌∙◌, arith, inl, inr, length-append, ◌==◌, not, replicate, list_all, prefix_len, cases_eq, eq-eqb, ne_eqb, get_or-take, length-take, length-take-le, prefix_len_stops, get_or-append_seam, AreBytes, IsDatabaseName, name_in, after_name_of, unless_zeros, after_name_fault, is_after_name, cases_Bool}
use Rattle.file_parts.proofs.PartsBack.{front_bytes}
use Rattle.file_parts.proofs.ExactHeads.{all_zeros}
use Rattle.file_parts.proofs.ExactTextBack.{IsAfter, after_at}

-- what is known of a name and the bytes after it in a file
pub record AreNames (file name after : List ℕ) : Type 0 where
  pub header : 78 ≤ length file
  pub named : name ≡ name_in file
  pub valid : IsDatabaseName name
  pub field : name ++ after ≡ take 32 file

true_false : true ≡ false → ⊥
true_false e = cc

was_zero : (x : ℕ) → not (x == 0) ≡ false → x ≡ 0
was_zero x stops = elim (cases_eq x 0) [
  | inl is ↦ is
  | inr some ↦ absurd (true_false (rw (ne_eqb x 0 some) at stops))
]

after_long : (file name after : List ℕ) → AreNames file name after → length name + length after ≡ 32
after_long file name after are =
    let both = length-append name after in
    omega (arith, ap length are.field, length-take-le 32 file (omega arith))

bytes_behind : (xs ys : List ℕ) → AreBytes (xs ++ ys) → AreBytes ys
bytes_behind [] ys are = are
bytes_behind (x ∷ xs) ys are = bytes_behind xs ys (λ k. are (suc k))

at_seam : (xs ys : List ℕ) → 0 < length ys → get_or (xs ++ ys) (length xs) 0 ≡ get_or ys 0 0
at_seam xs [] some = absurd (omega arith)
at_seam xs (y ∷ ys) some = get_or-append_seam xs y ys 0

name_stops : (file : List ℕ) → 78 ≤ length file → length (name_in file) < 31
    → get_or file (length (name_in file)) 0 ≡ 0
unfolding name_in
name_stops file header short =
    let p : ℕ → Bool = λ byte. not (byte == 0) in
    let front : List ℕ = take 31 file in
    let long = length-take-le 31 file (omega arith) in
    let n : ℕ = prefix_len p front in
    let taken = length-take n front in
    let size : length (take n front) ≡ n = omega arith in
    let stops = prefix_len_stops p front 0 (omega arith) in
    let here = get_or-take 31 file n 0 (omega arith) in
    let none = was_zero (get_or front n 0) stops in
    ap (λ k. get_or file k 0) size ∙ sym here ∙ none

begins_zero : (file name after : List ℕ) → AreNames file name after → length name < 31
    → get_or after 0 0 ≡ 0
begins_zero file name after are short =
    let long = after_long file name after are in
    let size = ap length are.named in
    let first = at_seam name after (omega arith) in
    let second = get_or-take 32 file (length name) 0 (omega arith) in
    cc (are.field, name_stops file are.header (omega arith))

-- they are right after the name
pub after_right : (file name after : List ℕ) → AreNames file name after
    → is_after_name name after ≡ true
after_right file name after are =
    let valid = are.valid in
    let long = after_long file name after are in
    let all = eq-eqb (length after + length name) 32 (omega arith) in
    elim (cases_Bool (length after == 1)) [
      | inl one ↦ rw (all, one) refl
      | inr more ↦
          let long = after_long file name after are in
          let several : length after ≡ 1 → ⊥ =
          λ is. true_false (sym (eq-eqb (length after) 1 is) ∙ more) in
          let valid = are.valid in
          let zero_there =
          eq-eqb (get_or after 0 0) 0 (begins_zero file name after are (omega arith)) in
          rw (all, more, zero_there) refl
    ]

pub after_fits : (file name after : List ℕ) (n : ℕ) → AreNames file name after
    → after_name_fault name (after_at n (unless_zeros after)) ≡ None
after_fits file name after n are = elim (cases_Bool (list_all (λ byte. byte == 0) after)) [
  | inl is ↦ rw is refl
  | inr is ↦ rw (is, after_right file name after are) refl
]

pub after_good : (file name after : List ℕ) → AreBytes file → AreNames file name after
    → IsAfter (unless_zeros after)
after_good file name after bytes are = elim (cases_Bool (list_all (λ byte. byte == 0) after)) [
  | inl is ↦ rw is tt
  | inr is ↦
      let long = after_long file name after are in
      let valid = are.valid in
      rw is (
        bytes_behind name after (subst AreBytes (sym are.field) (front_bytes 32 file bytes)),
        omega arith,
        omega arith,
      )
]

-- zeros need no line
pub after_back : (file name after : List ℕ) → AreNames file name after
    → after_name_of name (unless_zeros after) ≡ after
after_back file name after are = elim (cases_Bool (list_all (λ byte. byte == 0) after)) [
  | inl is ↦
      let long = after_long file name after are in
      let left : 32 - length name ≡ length after = omega arith in
      rw is (ap (λ n. replicate n 0) left ∙ all_zeros after is)
  | inr is ↦ rw is refl
]
