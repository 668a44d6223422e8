-- Once the starts of blocks are sorted, each block ends where the next one begins.
use Rattle.std.proofs.Common.{◌≡◌, ℕ, zero, suc, ◌+◌, ◌-◌, ◌<◌, ◌≤◌, Bool, true, false, cond, List, [], ◌∷◌, ◌++◌, length, get_or, take, drop, map, refl, sym, ap, subst, ◌∙◌, arith, inl, inr}
use Rattle.std.specs.Prelude.{◌⊎◌, ◌^◌, min, nat_lt, nat_le, filter, slice_index}
use Rattle.std.specs.List.{All, fold, sum_by}
use Rattle.std.specs.List.Sorted.{IsPermutation, IsNonDecreasingBy}
use Rattle.std.proofs.lemmas.Bool.{cases_eq, cases_lt, lt-ltb, le-ltb, ltb-true, leb-true}
use Rattle.std.proofs.lemmas.List.Elements.{All-filter, filter_passes}
use Rattle.std.proofs.lemmas.List.{append-nil, length-map, length-take-le, length-drop, get_or-take, get_or-drop, get_or-map, get_or_past}
use Rattle.std.proofs.lemmas.List.Sums.{sum_by-append, sum_by-cons, sum_by_more_le, get_or-le-sum_by}
use Rattle.std.proofs.lemmas.List.FromFn.{filter_of_map_range_with_len_more, length-map-range_with_len, get_or-map-range_with_len}
use Rattle.std.proofs.lemmas.List.Sorted.{All-permutation, sum_by-IsPermutation}
use Rattle.heap_model.specs.Lists.{same, numbered}
use Rattle.heap_model.specs.Files.{starts_behind}
use Rattle.laws_heap.proofs.Tests.{true_or_false, leb-is-true}
use Rattle.laws_store.proofs.Times.{same-yes, same-no}
use Rattle.pdb_format.specs.declared.starts.Start.{Start}
use Rattle.pdb_format.specs.Starts.{start_of, is_block_there, starts_in, order, begins}

-- ---- the least of some numbers

-- a number is one of these
abbrev Among : ℕ → List ℕ → Type 0
Among x [] = ⊥
Among x (y ∷ ys) = (x ≡ y) ⊎ Among x ys

-- a number is at most each of these
abbrev IsLow : ℕ → List ℕ → Type 0
IsLow x [] = Unit {0}
IsLow x (y ∷ ys) = (x ≤ y) × IsLow x ys

fold_min_is : (last e : ℕ) (xs : List ℕ) → e ≤ last → IsLow e xs → (e ≡ last) ⊎ Among e xs
    → fold min last xs ≡ e
fold_min_is last e [] most low (inl is) = sym is
fold_min_is last e [] most low (inr none) = absurd none
fold_min_is last e (x ∷ xs) most low (inl is) =
    fold_min_is (min last x) e xs (let h = low.0 in omega arith) low.1
    (inl (let h = low.0 in omega arith))
fold_min_is last e (x ∷ xs) most low (inr (inl is)) =
    fold_min_is (min last x) e xs (omega arith) low.1 (inl (omega arith))
fold_min_is last e (x ∷ xs) most low (inr (inr there)) =
    fold_min_is (min last x) e xs (let h = low.0 in omega arith) low.1 (inr there)

-- what passes a test is at least a number, if each number that passes is
kept_low : (e : ℕ) (test : ℕ → Bool) (xs : List ℕ)
    → ((k : ℕ) → k < length xs → test (get_or xs k 0) ≡ true → e ≤ get_or xs k 0)
    → IsLow e (filter test xs)
kept_low e test [] each = tt
kept_low e test (x ∷ xs) each =
    let others = kept_low e test xs (λ k inside passes. each (suc k) (omega arith) passes) in
    elim (true_or_false (test x)) [
      | inl kept ↦
          subst (λ (b : Bool). IsLow e (cond b (x ∷ filter test xs) (filter test xs))) (sym kept)
          (each 0 (omega arith) kept, others)
      | inr dropped ↦
          subst (λ (b : Bool). IsLow e (cond b (x ∷ filter test xs) (filter test xs)))
          (sym dropped) others
    ]

-- a number of the list that passes the test is kept
kept_among : (test : ℕ → Bool) (xs : List ℕ) (k : ℕ) → k < length xs → test (get_or xs k 0) ≡ true
    → Among (get_or xs k 0) (filter test xs)
kept_among test [] k inside passes = absurd (omega arith)
kept_among test (x ∷ xs) zero inside passes =
    subst (λ (b : Bool). Among x (cond b (x ∷ filter test xs) (filter test xs))) (sym passes)
    (inl refl)
kept_among test (x ∷ xs) (suc k) inside passes =
    let there = kept_among test xs k (omega arith) passes in
    elim (true_or_false (test x)) [
      | inl kept ↦
          subst (λ (b : Bool). Among (get_or xs k 0) (cond b (x ∷ filter test xs) (filter test xs)))
          (sym kept) (inr there)
      | inr dropped ↦
          subst (λ (b : Bool). Among (get_or xs k 0) (cond b (x ∷ filter test xs) (filter test xs)))
          (sym dropped) there
    ]

low_append : (e : ℕ) (xs ys : List ℕ) → IsLow e xs → IsLow e ys → IsLow e (xs ++ ys)
low_append e [] ys low others = others
low_append e (x ∷ xs) ys low others = (low.0, low_append e xs ys low.1 others)

among_left : (x : ℕ) (xs ys : List ℕ) → Among x xs → Among x (xs ++ ys)
among_left x [] ys there = absurd there
among_left x (y ∷ xs) ys (inl is) = inl is
among_left x (y ∷ xs) ys (inr there) = inr (among_left x xs ys there)

among_right : (x : ℕ) (xs ys : List ℕ) → Among x ys → Among x (xs ++ ys)
among_right x [] ys there = there
among_right x (y ∷ xs) ys there = inr (among_right x xs ys there)

-- ---- how often a rank stands among starts

abbrev ranked : ℕ → List Start → ℕ
ranked rank starts = sum_by (λ (start : Start). same rank start.rank) starts

abbrev pub none : Start
none = record { at = 0; rank = 0 }

-- the starts of the blocks of the first ranks
abbrev pub first_starts : List ℕ → ℕ → List Start
first_starts offsets count = filter is_block_there (numbered (start_of offsets) count)

-- how often a rank stands among one start more
more_ranked : (offsets : List ℕ) (rank count : ℕ)
    → ranked rank (first_starts offsets (suc count))
    ≡ ranked rank (first_starts offsets count) + ranked rank (cond (is_block_there (start_of offsets count)) (start_of offsets count ∷ []) [])
more_ranked offsets rank count =
    let next : suc count ≡ count + 1 = omega arith in
    ap (λ (n : ℕ). ranked rank (first_starts offsets n)) next
    ∙ ap (ranked rank)
    (filter_of_map_range_with_len_more is_block_there (start_of offsets) 0 count count (omega arith))
    ∙ sum_by-append (λ (start : Start). same rank start.rank) (first_starts offsets count)
    (cond (is_block_there (start_of offsets count)) (start_of offsets count ∷ []) [])

one_ranked : (offsets : List ℕ) (rank count : ℕ) (there : Bool)
    → ranked rank (cond there (start_of offsets count ∷ []) []) ≤ same rank count
one_ranked offsets rank count true = omega arith
one_ranked offsets rank count false = omega arith

-- a rank is among them once at most, and not at all after the first ranks
ranked_once : (offsets : List ℕ) (rank count : ℕ)
    → (ranked rank (first_starts offsets count) ≤ 1)
    × (count ≤ rank → ranked rank (first_starts offsets count) ≡ 0)
ranked_once offsets rank zero = (omega arith, λ less. refl)
ranked_once offsets rank (suc count) =
    let before = ranked_once offsets rank count in
    let most = before.0 in
    let more = more_ranked offsets rank count in
    let one = one_ranked offsets rank count (is_block_there (start_of offsets count)) in
    elim (cases_eq rank count) [
      | inl e ↦
          let zero_before = before.1 (omega arith) in
          let one_more = same-yes rank count e in
          (omega arith, λ less. absurd (omega arith))
      | inr ne ↦
          let no_more = same-no rank count ne in
          (omega arith, λ less. let zero_before = before.1 (omega arith) in omega arith)
    ]

-- and once, if its block is there
ranked_there : (offsets : List ℕ) (rank count : ℕ) → rank < count
    → is_block_there (start_of offsets rank) ≡ true → 1 ≤ ranked rank (first_starts offsets count)
ranked_there offsets rank zero inside there = absurd (omega arith)
ranked_there offsets rank (suc count) inside there =
    let more = more_ranked offsets rank count in
    elim (cases_eq rank count) [
      | inl e ↦
          let one_more = same-yes rank count e in
          let here : is_block_there (start_of offsets count) ≡ true = rw e at there in
          let one : ranked rank (cond (is_block_there (start_of offsets count)) (start_of offsets count ∷ []) [])
          ≡ 0 + same rank count =
          ap (λ (b : Bool). ranked rank (cond b (start_of offsets count ∷ []) [])) here in
          omega arith
      | inr ne ↦ let before = ranked_there offsets rank count (omega arith) there in omega arith
    ]

-- a rank that stands among starts stands at an index
rank_found : (rank : ℕ) (starts : List Start) → 1 ≤ ranked rank starts
    → (k : ℕ) × (k < length starts) × ((get_or starts k none).rank ≡ rank)
rank_found rank [] some = absurd (omega arith)
rank_found rank (start ∷ starts) some =
    let sum = sum_by-cons (λ (one : Start). same rank one.rank) start starts in
    elim (cases_eq rank start.rank) [
      | inl e ↦ (0, omega arith, sym e)
      | inr ne ↦
          let no_more = same-no rank start.rank ne in
          let later = rank_found rank starts (omega arith) in
          let inside = later.1 in
          (suc later.0, omega arith, later.2)
    ]

-- of two indexes with one rank the rank stands there twice
ranked_twice : (starts : List Start) (i j : ℕ) → i < j → j < length starts
    → (get_or starts i none).rank ≡ (get_or starts j none).rank
    → 2 ≤ ranked (get_or starts j none).rank starts
ranked_twice starts i j less inside e =
    let rank : ℕ = (get_or starts j none).rank in
    let f : Start → ℕ = λ (one : Start). same rank one.rank in
    let both = sum_by_more_le f starts j none inside in
    let long = length-take-le j starts (omega arith) in
    let first = get_or-le-sum_by f (take j starts) i none (omega arith) in
    let is : f (get_or (take j starts) i none) ≡ f (get_or starts i none) = ap f
    (get_or-take j starts i none less) in
    let one = same-yes rank (get_or starts i none).rank (sym e) in
    let two = same-yes rank rank refl in
    omega arith

-- ---- starts that are sorted

-- a start has the offset of its rank, and its block is there
abbrev pub IsStart : List ℕ → Start → Type 0
IsStart offsets start = (start.rank < length offsets) × (start.at ≡ get_or offsets start.rank 0)

starts_are : (offsets : List ℕ)
    → All (IsStart offsets) (numbered (start_of offsets) (length offsets))
starts_are offsets = λ k d inside.
    let long = length-map-range_with_len (start_of offsets) 0 (length offsets) in
    let less : k < length offsets = omega arith in
    let is = get_or-map-range_with_len (start_of offsets) 0 (length offsets) k k d less
    (omega arith) in
    subst (IsStart offsets) (sym is) (less, refl)

-- starts of blocks in some order: those that are there, by their offsets and ranks
pub record AreSorted (offsets : List ℕ) (last : ℕ) (items : List Start) : Type 0 where
  pub few : length offsets ≤ 2 ^ 32
  pub most : (k : ℕ) → k < length offsets → get_or offsets k 0 ≤ last
  pub all : IsPermutation (starts_in offsets) items
  pub rising : IsNonDecreasingBy order items

pub items_are : (offsets : List ℕ) (last : ℕ) (items : List Start) → AreSorted offsets last items
    → (k : ℕ) → k < length items
    → IsStart offsets (get_or items k none) × (0 < (get_or items k none).at)
items_are offsets last items sorted k inside =
    let starts = All-permutation (IsStart offsets) (starts_in offsets) items sorted.all
    (All-filter is_block_there (IsStart offsets) (numbered (start_of offsets) (length offsets))
    (starts_are offsets)) in
    let there =
    All-permutation (λ (start : Start). is_block_there start ≡ true) (starts_in offsets) items
    sorted.all (filter_passes is_block_there (numbered (start_of offsets) (length offsets))) in
    (starts k none inside, ltb-true 0 (get_or items k none).at (there k none inside))

-- each rank is as often among them as among the starts of the file
same_ranks : (offsets : List ℕ) (last : ℕ) (items : List Start) → AreSorted offsets last items
    → (rank : ℕ) → ranked rank items ≡ ranked rank (starts_in offsets)
same_ranks offsets last items sorted rank =
    sum_by-IsPermutation (λ (start : Start). same rank start.rank)
    (starts_in offsets) items sorted.all

-- no two have one rank
pub ranks_apart : (offsets : List ℕ) (last : ℕ) (items : List Start) → AreSorted offsets last items
    → (i j : ℕ) → i < j → j < length items → (get_or items i none).rank ≡ (get_or items j none).rank
    → ⊥
ranks_apart offsets last items sorted i j less inside e =
    let rank : ℕ = (get_or items j none).rank in
    let two = ranked_twice items i j less inside e in
    let one = (ranked_once offsets rank (length offsets)).0 in
    let is = same_ranks offsets last items sorted rank in
    omega arith

-- a block that is there has its start among them
pub start_found : (offsets : List ℕ) (last : ℕ) (items : List Start) → AreSorted offsets last items
    → (rank : ℕ) → rank < length offsets → 0 < get_or offsets rank 0
    → (j : ℕ) × (j < length items) × ((get_or items j none).rank ≡ rank)
    × ((get_or items j none).at ≡ get_or offsets rank 0)
start_found offsets last items sorted rank inside some =
    let one = ranked_there offsets rank (length offsets) inside
    (lt-ltb 0 (get_or offsets rank 0) some) in
    let is = same_ranks offsets last items sorted rank in
    let found = rank_found rank items (omega arith) in
    let at = (items_are offsets last items sorted found.0 found.1).0.1 in
    (found.0, found.1, found.2, at ∙ ap (λ (r : ℕ). get_or offsets r 0) found.2)

-- the next start is among those after a block
next_among : (offsets : List ℕ) (last : ℕ) (items : List Start) → AreSorted offsets last items
    → (i e : ℕ) → i < length items
    → (e ≡ last) ⊎ ((i + 1 < length items) × (e ≡ (get_or items (i + 1) none).at))
    → (e ≡ last)
    ⊎ Among e (starts_behind offsets (get_or items i none).rank (get_or items i none).at)
next_among offsets last items sorted i e inside (inl is) = inl is
next_among offsets last items sorted i e inside (inr next) =
    let rank : ℕ = (get_or items i none).rank in
    let at : ℕ = (get_or items i none).at in
    let next_rank : ℕ = (get_or items (i + 1) none).rank in
    let front : List ℕ = filter (nat_lt at) (take rank offsets) in
    let back : List ℕ = filter (nat_le at) (drop (rank + 1) offsets) in
    let own = (items_are offsets last items sorted i inside).0.0 in
    let other = (items_are offsets last items sorted (i + 1) next.0).0 in
    let other_inside = other.0 in
    let other_at = other.1 in
    let e_is = next.1 in
    let few = sorted.few in
    let long = length-take-le rank offsets (omega arith) in
    let rest = length-drop (rank + 1) offsets in
    let rises = sorted.rising i (i + 1) none (omega arith) next.0 in
    inr (elim (cases_lt next_rank rank) [
      | inl before ↦
          let is = get_or-take rank offsets next_rank 0 before in
          let there = kept_among (nat_lt at) (take rank offsets) next_rank (omega arith)
          (lt-ltb at (get_or (take rank offsets) next_rank 0) (omega arith)) in
          among_left e front back (rw (is ∙ sym other_at ∙ sym e_is) at there)
      | inr behind ↦ elim (cases_eq rank next_rank) [
        | inl same_rank ↦
            absurd (ranks_apart _ last items sorted i (i + 1) (omega arith) next.0 same_rank)
        | inr apart ↦
            let k : ℕ = next_rank - (rank + 1) in
            let back_is : rank + 1 + k ≡ next_rank = omega arith in
            let is : get_or (drop (rank + 1) offsets) k 0 ≡ get_or offsets next_rank 0 =
            get_or-drop (rank + 1) offsets k 0 ∙ ap (λ (n : ℕ). get_or offsets n 0) back_is in
            let there = kept_among (nat_le at) (drop (rank + 1) offsets) k (omega arith)
            (leb-is-true at (get_or (drop (rank + 1) offsets) k 0) (omega arith)) in
            among_right e front back (rw (is ∙ sym other_at ∙ sym e_is) at there)
      ]
    ])

-- a block ends at a number that is at most the starts after its own. The number is the next of
-- these starts, or the file's end if there is none.
end_is : (offsets : List ℕ) (last : ℕ) (items : List Start) → AreSorted offsets last items
    → (i e : ℕ) → i < length items → e ≤ last
    → ((j : ℕ) → i < j → j < length items → e ≤ (get_or items j none).at)
    → (e ≡ last) ⊎ ((i + 1 < length items) × (e ≡ (get_or items (i + 1) none).at))
    → fold min last (starts_behind offsets (get_or items i none).rank (get_or items i none).at) ≡ e
end_is offsets last items sorted i e inside most low reached =
    let rank : ℕ = (get_or items i none).rank in
    let at : ℕ = (get_or items i none).at in
    let own = items_are offsets last items sorted i inside in
    let own_inside = own.0.0 in
    let few = sorted.few in
    let long = length-take-le rank offsets (omega arith) in
    let rest = length-drop (rank + 1) offsets in
    let front_low : (k : ℕ) → k < length (take rank offsets)
    → nat_lt at (get_or (take rank offsets) k 0) ≡ true → e ≤ get_or (take rank offsets) k 0 =
    λ k less kept.
    let is = get_or-take rank offsets k 0 (omega arith) in
    let above = ltb-true at (get_or (take rank offsets) k 0) kept in
    let found = start_found offsets last items sorted k (omega arith) (omega arith) in
    let found_at = found.3 in
    let found_rank = found.2 in
    elim (cases_lt i found.0) [
      | inl behind ↦ let lowest = low found.0 behind found.1 in omega arith
      | inr before ↦
          let rises = sorted.rising found.0 i none (omega arith) inside in absurd (omega arith)
    ] in
    let back_low : (k : ℕ) → k < length (drop (rank + 1) offsets)
    → nat_le at (get_or (drop (rank + 1) offsets) k 0) ≡ true
    → e ≤ get_or (drop (rank + 1) offsets) k 0 =
    λ k less kept.
    let is = get_or-drop (rank + 1) offsets k 0 in
    let above = leb-true at (get_or (drop (rank + 1) offsets) k 0) kept in
    let there = own.1 in
    let found = start_found offsets last items sorted (rank + 1 + k) (omega arith) (omega arith) in
    let found_at = found.3 in
    let found_rank = found.2 in
    elim (cases_lt i found.0) [
      | inl behind ↦ let lowest = low found.0 behind found.1 in omega arith
      | inr before ↦
          let rises = sorted.rising found.0 i none (omega arith) inside in absurd (omega arith)
    ] in
    let all_low = low_append e _ _ (kept_low e (nat_lt at) (take rank offsets) front_low)
    (kept_low e (nat_le at) (drop (rank + 1) offsets) back_low) in
    fold_min_is last e _ most all_low (next_among _ last items sorted i e inside reached)

-- ---- each block ends where the next one begins

pub begins_inside : (last : ℕ) (items : List Start) (i : ℕ) → i < length items
    → begins last items i ≡ (get_or items i none).at
begins_inside last items i inside =
    get_or-map (λ (start : Start). start.at) items i none last inside

pub sorted_end : (offsets : List ℕ) (last : ℕ) (items : List Start) → AreSorted offsets last items
    → (i : ℕ) → i < length items
    → fold min last (starts_behind offsets (get_or items i none).rank (get_or items i none).at)
    ≡ begins last items (i + 1)
sorted_end offsets last items sorted i inside = elim (cases_lt (i + 1) (length items)) [
  | inl next ↦
      let is = begins_inside last items (i + 1) next in
      let at = (items_are offsets last items sorted (i + 1) next).0 in
      let at_inside = at.0 in
      let at_is = at.1 in
      let most = sorted.most (get_or items (i + 1) none).rank at_inside in
      let few = sorted.few in
      let low : (j : ℕ) → i < j → j < length items
      → begins last items (i + 1) ≤ (get_or items j none).at =
      λ j behind less.
      let rises = sorted.rising (i + 1) j none (omega arith) less in
      let one = (items_are offsets last items sorted j less).0.0 in
      omega arith in
      end_is _ last items sorted i (begins last items (i + 1)) inside (omega arith) low
      (inr (next, is))
  | inr none_next ↦
      let long = length-map items (λ (start : Start). start.at) in
      let is : begins last items (i + 1) ≡ last = get_or_past
      (map (λ (start : Start). start.at) items) (i + 1) last (omega arith) in
      let low : (j : ℕ) → i < j → j < length items
      → begins last items (i + 1) ≤ (get_or items j none).at =
      λ j behind less. absurd (omega arith) in
      end_is _ last items sorted i (begins last items (i + 1)) inside (omega arith) low (inl is)
]

-- ---- starts as they are collected

pub one_more : (offsets : List ℕ) (rank at : ℕ) → at ≡ slice_index offsets rank → 0 < at
    → first_starts offsets rank ++ record { at = at; rank = rank } ∷ []
    ≡ first_starts offsets (rank + 1)
one_more offsets rank at is some =
    let there : is_block_there (start_of offsets rank) ≡ true = lt-ltb 0 (slice_index offsets rank)
    (omega arith) in
    ap (λ (n : ℕ). first_starts offsets rank ++ record { at = n; rank = rank } ∷ []) is
    ∙ ap (λ (b : Bool). first_starts offsets rank ++ cond b (start_of offsets rank ∷ []) [])
    (sym there)
    ∙ sym (filter_of_map_range_with_len_more is_block_there (start_of offsets) 0 rank rank
    (omega arith))

pub none_more : (offsets : List ℕ) (rank at : ℕ) → at ≡ slice_index offsets rank → at ≡ 0
    → first_starts offsets rank ≡ first_starts offsets (rank + 1)
none_more offsets rank at is zero_at =
    let there : is_block_there (start_of offsets rank) ≡ false = le-ltb 0 (slice_index offsets rank)
    (omega arith) in
    sym (append-nil (first_starts offsets rank))
    ∙ ap (λ (b : Bool). first_starts offsets rank ++ cond b (start_of offsets rank ∷ []) [])
    (sym there)
    ∙ sym (filter_of_map_range_with_len_more is_block_there (start_of offsets) 0 rank rank
    (omega arith))
