-- The ranks of a text's lines `order`, with the marks of those that were taken.
use Rattle.file_parts.proofs.AllWords.{◌≡◌, ℕ, zero, suc, ◌+◌, ◌<◌, ◌≤◌, Bool, true, false, cond, Some, None, List, [], ◌∷◌, ◌++◌, length, get_or, drop, map, refl, sym, ap, subst, ◌∙◌, arith, inl, inr, append_assoc, append-nil, add-one, drop-cons, ◌&&◌, ◌==◌, nat_lt, filter, is_some, replicate, range_with_len, set, and_parts, cases_eq, cases_lt, lt-ltb, le-ltb, ne_eqb, get_or_past, get_or-set_same, get_or-set_other, length-replicate, length-set, filter_of_map_range_with_len_more, times, same-yes, same-no, times-append, times-cons, LineFault, BadWord, fault_in, is_other, order_of, order_fault, AreMarked, free_ranks, is_free, OrderLine, Blob, cases_Bool}
use Rattle.file_parts.proofs.ExactBlocks.{zero_of}

and_swap : (a b : Bool) → a && b ≡ b && a
and_swap true true = refl
and_swap true false = refl
and_swap false true = refl
and_swap false false = refl

-- a block without a mark is none of the ranks
pub free_is_other : (blocks : List Blob) (ranks marks : List ℕ) (rank : ℕ)
    → AreMarked (length blocks) ranks marks → is_free blocks marks rank ≡ is_other blocks ranks rank
free_is_other blocks ranks marks rank are = elim (cases_lt rank (length blocks)) [
  | inl inside ↦
      let room = are.room in
      let low : nat_lt rank (length marks) ≡ true = lt-ltb rank (length marks) (omega arith) in
      rw (low, are.mark rank inside)
      (and_swap (times rank ranks == 0) (is_some (get_or blocks rank None)))
  | inr past ↦
      let high : nat_lt rank (length marks) ≡ false = le-ltb rank (length marks) (omega arith) in
      let none : get_or blocks rank None ≡ None = get_or_past blocks rank None past in
      rw (high, none) refl
]

-- the ranks without a mark
pub free_others : (blocks : List Blob) (ranks marks : List ℕ)
    → AreMarked (length blocks) ranks marks → free_ranks blocks marks (length marks)
    ≡ filter (is_other blocks ranks) (range_with_len 0 (length blocks))
free_others blocks ranks marks are =
    let same : is_free blocks marks ≡ is_other blocks ranks =
    λ i. λ rank. free_is_other blocks ranks marks rank are i in
    cc are.room

-- ---- marks

none_marked_at : (count rank : ℕ) → (get_or (replicate count 0) rank 0 == 0) ≡ true
none_marked_at zero rank = refl
none_marked_at (suc count) zero = refl
none_marked_at (suc count) (suc rank) = none_marked_at count rank

-- zeros mark no rank
pub none_marked : (count : ℕ) (marks : List ℕ) → marks ≡ replicate count 0
    → AreMarked count [] marks
none_marked count marks is = subst (AreMarked count []) (sym is) (record {
  room = length-replicate count 0;
  mark = λ rank inside. none_marked_at count rank;
})

-- one more rank is marked
pub mark_more : (count rank : ℕ) (ranks marks : List ℕ) → AreMarked count ranks marks → rank < count
    → AreMarked count (ranks ++ rank ∷ []) (set marks rank 1)
mark_more count rank ranks marks are inside =
    let room = are.room in
    record {
      room = length-set marks rank 1 ∙ room;
      mark = λ k less. (let total =
          times-append k ranks (rank ∷ []) ∙ ap (λ n. times k ranks + n) (times-cons k rank []) in
          elim (cases_eq k rank) [
            | inl is ↦ (let one = same-yes rank k (sym is) in
                let marked : get_or (set marks rank 1) k 0 ≡ 1 =
                cc (get_or-set_same marks rank 1 0 (omega arith)) in
                ne_eqb (get_or (set marks rank 1) k 0) 0 (λ e. (omega arith))
                ∙ sym (ne_eqb (times k (ranks ++ rank ∷ [])) 0 (λ e. (omega arith))))
            | inr other ↦ (let none = same-no rank k (λ e. other (sym e)) in
                let same_times : times k (ranks ++ rank ∷ []) ≡ times k ranks = omega arith in
                cc (get_or-set_other marks rank k 1 0 other, are.mark k less))
          ]);
    }

-- the lines from an index on
lines_here : (order : List OrderLine) (i : ℕ) (line : OrderLine) → i < length order
    → line ≡ get_or order i line → drop i order ≡ line ∷ drop (i + 1) order
lines_here order i line inside is =
    rw (add-one, drop-cons order i line) (ap (λ one. one ∷ drop (suc i) order) (sym is))

-- ---- each rank is there once

pub none_fault : (fault : LineFault) → Some fault ≡ None → ⊥
none_fault fault e = cc

pub named_once : (blocks : List Blob) (front : List ℕ) (lines : List OrderLine)
    → order_fault blocks front lines ≡ None → ((q : ℕ) → times q front ≤ 1) → (q : ℕ)
    → times q (front ++ map (λ (line : OrderLine). line.rank) lines) ≤ 1
named_once blocks front [] good once q = rw append-nil (once q)
named_once blocks front (line ∷ lines) good once q =
    elim (cases_Bool (is_other blocks front line.rank)) [
      | inl is ↦
          let more = named_once blocks (front ++ line.rank ∷ []) lines in
          let none = zero_of (times line.rank front)
          (and_parts (is_some (get_or blocks line.rank None)) (times line.rank front == 0) is).1 in
          let joined =
          append_assoc front (line.rank ∷ []) (map (λ (one : OrderLine). one.rank) lines) in
          subst (λ ranks. times q ranks ≤ 1) joined (more (rw is at good) (λ r.
          (let total = times-append r front (line.rank ∷ [])
          ∙ ap (λ n. times r front + n) (times-cons r line.rank []) in
          elim (cases_eq line.rank r) [
            | inl same_rank ↦
                (let one = same-yes line.rank r same_rank in let zero_times : times r front ≡ 0 =
                ap (λ n. times n front) (sym same_rank) ∙ none in omega arith)
            | inr other ↦ omega (arith, same-no line.rank r other, once r)
          ])) q)
      | inr is ↦ absurd (none_fault (fault_in line.line (BadWord 2)) (rw is at good))
    ]

-- ---- the ranks without a mark, one more at a time

map_same : (xs : List ℕ) → map (λ (x : ℕ). x) xs ≡ xs
map_same [] = refl
map_same (x ∷ xs) = ap (λ ys. x ∷ ys) (map_same xs)

pub free_more : (blocks : List Blob) (marks : List ℕ) (rank : ℕ) → free_ranks blocks marks (rank
    + 1) ≡ free_ranks blocks marks rank ++ cond (is_free blocks marks rank) (rank ∷ []) []
free_more blocks marks rank =
    let test : ℕ → Bool = is_free blocks marks in
    let first = map_same (range_with_len 0 (rank + 1)) in
    let second = filter_of_map_range_with_len_more test (λ (r : ℕ). r) 0 rank rank (omega arith) in
    cc (map_same (range_with_len 0 rank))

-- a rank is added
pub free_added : (blocks : List Blob) (marks : List ℕ) (rank : ℕ) (front old new : List ℕ)
    → old ≡ front ++ free_ranks blocks marks rank → is_free blocks marks rank ≡ true
    → new ≡ old ++ rank ∷ [] → new ≡ front ++ free_ranks blocks marks (rank + 1)
free_added blocks marks rank front old new before free_one is =
    cc (append_assoc front (free_ranks blocks marks rank) (rank ∷ []), free_more blocks marks rank)

-- a rank is not added
pub free_left_out : (blocks : List Blob) (marks : List ℕ) (rank : ℕ) (front old : List ℕ)
    → old ≡ front ++ free_ranks blocks marks rank → is_free blocks marks rank ≡ false
    → old ≡ front ++ free_ranks blocks marks (rank + 1)
free_left_out blocks marks rank front old before taken =
    cc (append-nil (free_ranks blocks marks rank), free_more blocks marks rank)

-- ---- the lines `order`, one more at a time

-- the next line is of a free block
pub line_good : (blocks : List Blob) (ranks marks : List ℕ) (order : List OrderLine) (i : ℕ)
    (line : OrderLine) → AreMarked (length blocks) ranks marks → i < length order
    → line ≡ get_or order i line → is_free blocks marks line.rank ≡ true → order_fault blocks ranks
    (drop i order) ≡ order_fault blocks (ranks ++ line.rank ∷ []) (drop (i + 1) order)
line_good blocks ranks marks order i line are inside is free_one =
    let other : is_other blocks ranks line.rank ≡ true =
    sym (free_is_other blocks ranks marks line.rank are) ∙ free_one in
    ap (order_fault blocks ranks) (lines_here order i line inside is) ∙ rw other refl

-- the next line is faulty
pub line_bad : (blocks : List Blob) (ranks marks : List ℕ) (order : List OrderLine) (i : ℕ)
    (line : OrderLine) → AreMarked (length blocks) ranks marks → i < length order
    → line ≡ get_or order i line → is_free blocks marks line.rank ≡ false
    → order_fault blocks ranks (drop i order) ≡ Some (fault_in line.line (BadWord 2))
line_bad blocks ranks marks order i line are inside is taken =
    let other : is_other blocks ranks line.rank ≡ false =
    sym (free_is_other blocks ranks marks line.rank are) ∙ taken in
    ap (order_fault blocks ranks) (lines_here order i line inside is) ∙ rw other refl

-- the ranks of the lines, and then the others
pub ranks_all : (blocks : List Blob) (named mid new marks : List ℕ) → mid ≡ named
    → AreMarked (length blocks) mid marks → new ≡ mid ++ free_ranks blocks marks (length marks)
    → new ≡ order_of blocks named
ranks_all blocks named mid new marks is are all = cc (free_others blocks mid marks are)
