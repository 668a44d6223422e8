-- One more mark counts one name more, and a mark proves how often a slot is named.
use Rattle.store_check.proofs.Terms.{◌≡◌, ◌≢◌, ℕ, ◌+◌, ◌<◌, ◌≤◌, List, [], ◌∷◌, ◌++◌, length, get_or, set, sym, ap, subst, ◌∙◌, arith, inl, inr, cases_eq, length-set, get_or-set_same, get_or-set_other, ◌↔◌, same, times, same-yes, same-no, times-cons, times-append, marked_word, HasMark, AreMarks}

-- one more
times-push : (q x : ℕ) (xs : List ℕ) → times q (xs ++ x ∷ []) ≡ times q xs + same x q
times-push q x xs = let both = times-append q xs (x ∷ []) in let cons = times-cons q x [] in
    omega arith

-- a slot is marked once more, up to two
pub marked_more : (xs marks new : List ℕ) (slot number : ℕ) → marked_word number ≡ slot
    → number < length marks → new ≡ set marks number (get_or marks number 0 + 1)
    → get_or marks number 0 < 2 → AreMarks xs marks → AreMarks (xs ++ slot ∷ []) new
marked_more xs marks new slot number word inside is few m k below =
    let long : length new ≡ length marks =
    ap length is ∙ length-set marks number (get_or marks number 0 + 1) in
    let push = times-push (marked_word k) slot xs in
    let before = m k (omega arith) in
    elim (cases_eq k number) [
      | inl e ↦
          let at : get_or new k 0 ≡ get_or marks number 0 + 1 =
          ap (λ (i : ℕ). get_or new i 0) e ∙ ap (λ (l : List ℕ). get_or l number 0) is
          ∙ get_or-set_same marks number (get_or marks number 0 + 1) 0 inside in
          let old : get_or marks k 0 ≡ get_or marks number 0 = ap (λ (i : ℕ). get_or marks i 0) e in
          let one = same-yes slot (marked_word k) (omega arith) in
          omega arith
      | inr ne ↦
          let at : get_or new k 0 ≡ get_or marks k 0 = ap (λ (l : List ℕ). get_or l k 0) is
          ∙ get_or-set_other marks number k (get_or marks number 0 + 1) 0 ne in
          let no = same-no slot (marked_word k) (λ e. ne (omega arith)) in
          omega arith
    ]

pub marked_full : (xs marks : List ℕ) (slot number : ℕ) → marked_word number ≡ slot
    → 2 ≤ get_or marks number 0 → AreMarks xs marks → AreMarks (xs ++ slot ∷ []) marks
marked_full xs marks slot number word full m k below =
    let push = times-push (marked_word k) slot xs in
    let before = m k below in
    elim (cases_eq k number) [
      | inl e ↦ let old : get_or marks k 0 ≡ get_or marks number 0 =
          ap (λ (i : ℕ). get_or marks i 0) e in omega arith
      | inr ne ↦ let no = same-no slot (marked_word k) (λ e. ne (omega arith)) in omega arith
    ]

-- what has no mark
pub marked_none : (xs marks : List ℕ) (slot : ℕ) → (HasMark slot (length marks) → ⊥)
    → AreMarks xs marks → AreMarks (xs ++ slot ∷ []) marks
marked_none xs marks slot none m k below =
    let push = times-push (marked_word k) slot xs in
    let before = m k below in
    let no = same-no slot (marked_word k) (λ e. none (k, sym e, below)) in
    omega arith

pub marked_told : (xs marks : List ℕ) (slot number : ℕ) → marked_word number ≡ slot
    → number < length marks → AreMarks xs marks
    → ((get_or marks number 0 ≢ 0) ↔ (0 < times slot xs))
marked_told xs marks slot number word inside m =
    let here = m number inside in
    let same_times : times (marked_word number) xs ≡ times slot xs =
    ap (λ (q : ℕ). times q xs) word in
    (λ some. omega arith, λ some zero_is. omega arith)

pub same_marks : (xs ys marks : List ℕ) → xs ≡ ys → AreMarks xs marks → AreMarks ys marks
same_marks xs ys marks e m = subst (λ (l : List ℕ). AreMarks l marks) e m
