-- The ranks of an order are those of blocks, each once.
use Rattle.file_parts.proofs.AllWords.{◌≡◌, ℕ, zero, suc, ◌+◌, ◌<◌, ◌≤◌, Bool, true, false, None, List, [], ◌∷◌, ◌++◌, length, get_or, map, refl, sym, ap, subst, ◌∙◌, arith, inl, inr, ◌==◌, filter, is_some, range_with_len, and_parts, cases_eq, cases_lt, get_or_past, times, same-yes, same-no, times-append, times-cons, times-some, BadWord, fault_in, is_other, order_of, order_fault, OrderLine, Blob, cases_Bool, passing}
use Rattle.file_parts.proofs.ExactBlocks.{zero_of}
use Rattle.file_parts.proofs.ExactOrders.{named_once, none_fault}
use Rattle.file_parts.proofs.ExactRanks.{not_true, true_false}

abbrev named : List OrderLine → List ℕ
named lines = map (λ (line : OrderLine). line.rank) lines

-- ---- numbers of a range that pass a test

pub times_not : (test : ℕ → Bool) (q : ℕ) (xs : List ℕ) → test q ≡ false
    → times q (filter test xs) ≡ 0
times_not test q [] fails = refl
times_not test q (x ∷ xs) fails = elim (cases_Bool (test x)) [
  | inl is ↦
      let more = times_not test q xs fails in
      let other : x ≡ q → ⊥ = λ same. true_false (sym is ∙ ap test same ∙ fails) in
      let cons = times-cons q x (filter test xs) in
      let none = same-no x q other in
      rw is (omega arith)
  | inr is ↦ rw is (times_not test q xs fails)
]

pub times_below : (test : ℕ → Bool) (q from n : ℕ) → q < from → times q (passing test from n) ≡ 0
times_below test q from zero less = refl
times_below test q from (suc n) less = elim (cases_Bool (test from)) [
  | inl is ↦
      let more = times_below test q (from + 1) n (omega arith) in
      let cons = times-cons q from (passing test (from + 1) n) in
      let none = same-no from q (λ same. (omega arith)) in
      rw is (omega arith)
  | inr is ↦ rw is (times_below test q (from + 1) n (omega arith))
]

pub times_once : (test : ℕ → Bool) (q from n : ℕ) → times q (passing test from n) ≤ 1
times_once test q from zero = omega arith
times_once test q from (suc n) = elim (cases_Bool (test from)) [
  | inl is ↦
      let more = times_once test q (from + 1) n in
      let cons = times-cons q from (passing test (from + 1) n) in
      rw is (elim (cases_eq from q) [
        | inl same ↦
            omega (arith, same-yes from q same, times_below test q (from + 1) n (omega arith))
        | inr other ↦ omega (arith, same-no from q other)
      ])
  | inr is ↦ rw is (times_once test q (from + 1) n)
]

-- ---- blocks that are there

pub inside_some : (blocks : List Blob) (q : ℕ) → is_some (get_or blocks q None) ≡ true
    → q < length blocks
inside_some blocks q some = elim (cases_lt q (length blocks)) [
  | inl less ↦ less
  | inr past ↦ absurd (true_false (sym some ∙ ap is_some (get_or_past blocks q None past)))
]

pub named_some : (blocks : List Blob) (front : List ℕ) (lines : List OrderLine)
    → order_fault blocks front lines ≡ None → (q : ℕ) → 0 < times q (named lines)
    → is_some (get_or blocks q None) ≡ true
named_some blocks front [] good q some = absurd (omega arith)
named_some blocks front (line ∷ lines) good q some =
    elim (cases_Bool (is_other blocks front line.rank)) [
      | inl is ↦
          let more = named_some blocks (front ++ line.rank ∷ []) lines in
          elim (cases_eq line.rank q) [
            | inl same ↦ subst (λ r. is_some (get_or blocks r None) ≡ true) same (and_parts
                (is_some (get_or blocks line.rank None)) (times line.rank front == 0) is).0
            | inr other ↦ (let none = same-no line.rank q other in
                let cons = times-cons q line.rank (named lines) in
                more (rw is at good) q (omega arith))
          ]
      | inr is ↦ absurd (none_fault (fault_in line.line (BadWord 2)) (rw is at good))
    ]

-- ---- the whole order

pub not_other : (blocks : List Blob) (ranks : List ℕ) (q : ℕ) → 0 < times q ranks
    → is_other blocks ranks q ≡ false
not_other blocks ranks q some =
    not_true (is_other blocks ranks q) (λ passes. (let none = zero_of (times q ranks)
    (and_parts (is_some (get_or blocks q None)) (times q ranks == 0) passes).1 in omega arith))

abbrev others : List Blob → List OrderLine → List ℕ
others blocks lines = filter (is_other blocks (named lines)) (range_with_len 0 (length blocks))

-- each rank is there once
pub ranks_once : (blocks : List Blob) (lines : List OrderLine) → order_fault blocks [] lines ≡ None
    → (q : ℕ) → times q (order_of blocks (map (λ line. line.rank) lines)) ≤ 1
ranks_once blocks lines good q =
    let total = times-append q (named lines) (others blocks lines) in
    let once : times q (named lines) ≤ 1 = named_once blocks [] lines good (λ r. omega arith) q in
    let one = times_once (is_other blocks (named lines)) q 0 (length blocks) in
    elim (cases_eq (times q (named lines)) 0) [
      | inl none ↦ omega arith
      | inr some ↦
          let taken : is_other blocks (named lines) q ≡ false =
          not_other blocks (named lines) q (omega arith) in
          let none =
          times_not (is_other blocks (named lines)) q (range_with_len 0 (length blocks)) taken in
          omega arith
    ]

-- each rank is that of a block
pub rank_there : (blocks : List Blob) (lines : List OrderLine) (q : ℕ)
    → order_fault blocks [] lines ≡ None
    → 0 < times q (order_of blocks (map (λ line. line.rank) lines)) → q < length blocks
rank_there blocks lines q good some =
    let total = times-append q (named lines) (others blocks lines) in
    elim (cases_eq (times q (named lines)) 0) [
      | inl none ↦ by_test (is_other blocks (named lines) q) refl (omega arith)
      | inr there ↦ inside_some blocks q (named_some blocks [] lines good q (omega arith))
    ] where
      by_test : (v : Bool) → is_other blocks (named lines) q ≡ v → 0 < times q (others blocks lines)
          → q < length blocks
      by_test true is there = inside_some blocks q
          (and_parts (is_some (get_or blocks q None)) (times q (named lines) == 0) is).0
      by_test false is there = absurd (omega (
        arith,
        times_not (is_other blocks (named lines)) q (range_with_len 0 (length blocks)) is,
      ))

pub rank_inside : (blocks : List Blob) (lines : List OrderLine) (ranks : List ℕ) (i rank : ℕ)
    → order_fault blocks [] lines ≡ None → ranks ≡ order_of blocks (map (λ line. line.rank) lines)
    → i < length ranks → rank ≡ get_or ranks i 0 → rank < length blocks
rank_inside blocks lines ranks i rank good are inside is =
    let some = times-some rank ranks i 0 inside (sym is) in
    rank_there blocks lines rank good (subst (λ xs. 0 < times rank xs) are some)
