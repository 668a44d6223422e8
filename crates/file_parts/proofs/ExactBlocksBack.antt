-- Blocks that come in an order, one after the other, are read back.
use Rattle.file_parts.proofs.AllWords.{◌≡◌, ℕ, zero, suc, ◌+◌, ◌-◌, ◌*◌, ◌^◌, ◌<◌, ◌≤◌, Bool, true, false, Some, None, List, [], ◌∷◌, ◌++◌, length, get_or, take, drop, map, refl, sym, ap, subst, ◌∙◌, arith, inl, inr, append_assoc, append-nil, length-append, ◌==◌, nat_lt, filter, is_some, slice_index, slice_range, flat_map, range_with_len, remove, IsPermutation, IsNonDecreasingBy, cases_eq, cases_lt, eq-eqb, ne_eqb, lt-ltb, le-ltb, drop_at, get_or-map, get_or_past, length-map, take_all, take_at, take_more, take-append-drop, flat_map-append, fill_by_all, get_or-map-range_with_len, IsPermutation-refl, IsPermutation-sym, IsPermutation-trans, IsPermutation-cons, IsPermutation-map, IsPermutation-remove, same, times, block_at, block_bytes, block_size, blocks_in, offsets_in, same-yes, same-no, times-cons, times-remove, times-some, contained-times, start_of, is_block_there, order, starts_in, offset_among, Blob, cases_Bool, passing}
use Rattle.file_parts.proofs.ExactBlocks.{begins_past, block_here, place_of, starts_of, AreSortedIn, begin_in, at_rank}
use Rattle.file_parts.proofs.ExactInside.{times_not, times_once}
use Rattle.file_parts.proofs.ExactPlaces.{blocks_of}
use Rattle.file_parts.proofs.ExactRanks.{get_or-same, not_true, rest_from, true_false}

-- ---- offsets

-- a rank that isn't there has none
pub offset_none : (block : ℕ → Blob) (at : ℕ) (ranks : List ℕ) (rank : ℕ) → times rank ranks ≡ 0
    → offset_among block at ranks rank ≡ 0
offset_none block at [] rank none = refl
offset_none block at (x ∷ ranks) rank none =
    let total = times-cons rank x ranks in
    let other : x ≡ rank → ⊥ = λ is. omega (arith, same-yes x rank is) in
    rw (ne_eqb x rank other)
    (offset_none block (at + block_size (block x)) ranks rank (omega arith))

-- the block at an index begins after those before it
pub offset_at : (block : ℕ → Blob) (at : ℕ) (ranks : List ℕ) (i : ℕ) → i < length ranks
    → ((q : ℕ) → times q ranks ≤ 1)
    → offset_among block at ranks (get_or ranks i 0) ≡ at + length (blocks_of block (take i ranks))
offset_at block at [] i inside once = absurd (omega arith)
offset_at block at (x ∷ ranks) zero inside once =
    let same_at : at ≡ at + 0 = omega arith in
    rw (eq-eqb x x refl) same_at
offset_at block at (x ∷ ranks) (suc i) inside once =
    let rank : ℕ = get_or ranks i 0 in
    let total = times-cons rank x ranks in
    let some = times-some rank ranks i 0 (omega arith) refl in
    let most = once rank in
    let other : x ≡ rank → ⊥ = λ is. omega (arith, same-yes x rank is) in
    let more = offset_at block (at + block_size (block x)) ranks i (omega arith)
    (λ q. omega (arith, times-cons q x ranks, once q)) in
    let long = length-append (block_bytes (block x)) (blocks_of block (take i ranks)) in
    rw (ne_eqb x rank other) (more ∙ omega arith)

-- no block begins after the end of all
pub offset_most : (block : ℕ → Blob) (at : ℕ) (ranks : List ℕ) (rank : ℕ)
    → offset_among block at ranks rank ≤ at + length (blocks_of block ranks)
offset_most block at [] rank = omega arith
offset_most block at (x ∷ ranks) rank =
    let more = offset_most block (at + block_size (block x)) ranks rank in
    let long = length-append (block_bytes (block x)) (blocks_of block ranks) in
    elim (cases_Bool (x == rank)) [
      | inl is ↦ rw is (omega arith)
      | inr is ↦ rw is (omega arith)
    ]

-- nor before the first of them
pub offset_low : (block : ℕ → Blob) (at : ℕ) (ranks : List ℕ) (rank : ℕ) → 0 < times rank ranks
    → at ≤ offset_among block at ranks rank
offset_low block at [] rank some = absurd (omega arith)
offset_low block at (x ∷ ranks) rank some =
    let total = times-cons rank x ranks in
    elim (cases_eq x rank) [
      | inl is ↦ rw (eq-eqb x rank is) (omega arith)
      | inr other ↦
          let none = same-no x rank other in
          let more = offset_low block (at + block_size (block x)) ranks rank (omega arith) in
          rw (ne_eqb x rank other) (omega arith)
    ]

-- ---- the starts of ranks, in another order

-- lists with the same numbers
permuted : (xs ys : List ℕ) → ((q : ℕ) → times q xs ≡ times q ys) → IsPermutation xs ys
permuted [] [] each = IsPermutation-refl []
permuted [] (y ∷ ys) each =
    let all = each y in
    let total = times-cons y y ys in
    let one = same-yes y y refl in
    absurd (omega arith)
permuted (x ∷ xs) ys each =
    let all = each x in
    let total = times-cons x x xs in
    let one = same-yes x x refl in
    let found = contained-times x ys (omega arith) in
    let rest : List ℕ = remove ys found.0 in
    let parts : IsPermutation ys (x ∷ rest) =
    IsPermutation-remove ys found.0 x found.1 (sym found.2) in
    let others : IsPermutation xs rest = permuted xs rest (λ q. (let here = each q in
    let more = times-cons q x xs in
    let cut = times-remove q ys found.0 x found.1 in
    let is : same (get_or ys found.0 x) q ≡ same x q = ap (λ y. same y q) found.2 in
    omega arith)) in
    IsPermutation-trans (x ∷ xs) (x ∷ rest) ys (IsPermutation-cons x xs rest others)
    (IsPermutation-sym ys (x ∷ rest) parts)

pub times_in : (test : ℕ → Bool) (q from n : ℕ) → from ≤ q → q < from + n → test q ≡ true
    → 0 < times q (passing test from n)
times_in test q from zero low high passes = absurd (omega arith)
times_in test q from (suc n) low high passes = elim (cases_eq from q) [
  | inl is ↦
      let here : test from ≡ true = ap test is ∙ passes in
      let total = times-cons q from (passing test (from + 1) n) in
      let one = same-yes from q is in
      rw here (omega arith)
  | inr other ↦
      by_test (test from) refl (times_in test q (from + 1) n (omega arith) (omega arith) passes)
] where
  by_test : (v : Bool) → test from ≡ v → 0 < times q (passing test (from + 1) n)
      → 0 < times q (passing test from (suc n))
  by_test false is more = rw is more
  by_test true is more =
      (let total = times-cons q from (passing test (from + 1) n) in rw is (omega arith))

abbrev has_start : List ℕ → ℕ → Bool
has_start offsets rank = nat_lt 0 (slice_index offsets rank)

starts_kept : (offsets ranks : List ℕ) → filter is_block_there (map (start_of offsets) ranks)
    ≡ map (start_of offsets) (filter (has_start offsets) ranks)
starts_kept offsets [] = refl
starts_kept offsets (rank ∷ ranks) = elim (cases_Bool (has_start offsets rank)) [
  | inl is ↦ rw is (ap (λ starts. start_of offsets rank ∷ starts) (starts_kept offsets ranks))
  | inr is ↦ rw is (starts_kept offsets ranks)
]

-- Blocks come after some bytes of a file, in the order of these ranks. Each rank of a block is
-- there once, and the file has the offsets of the blocks. A block without bytes comes before one of
-- a greater rank.
pub record AreLaid (file front : List ℕ) (blocks : List Blob) (ranks : List ℕ) : Type 0 where
  pub is : file ≡ front ++ blocks_of (at_rank blocks) ranks
  pub some : 0 < length front
  pub few : length blocks ≤ 2 ^ 32
  pub long : length (offsets_in file) ≡ length blocks
  pub offset : (rank : ℕ) → rank < length blocks
      → get_or (offsets_in file) rank 0 ≡ offset_among (at_rank blocks) (length front) ranks rank
  pub once : (q : ℕ) → times q ranks ≤ 1
  pub inside : (q : ℕ) → 0 < times q ranks → q < length blocks
  pub there : (q : ℕ) → 0 < times q ranks → is_some (get_or blocks q None) ≡ true
  pub all : (q : ℕ) → is_some (get_or blocks q None) ≡ true → 0 < times q ranks
  pub rises : (i : ℕ) → suc i < length ranks
      → block_size (get_or blocks (get_or ranks i 0) None) ≡ 0
      → get_or ranks i 0 ≤ get_or ranks (suc i) 0

none_of : (block : Blob) → is_some block ≡ false → block ≡ None
none_of None is = refl
none_of (Some bytes) is = absurd (true_false is)

some_of : (block : Blob) → is_some block ≡ true → block ≡ Some (block_bytes block)
some_of None is = absurd (true_false (sym is))
some_of (Some bytes) is = refl

climbs : (f : ℕ → ℕ) (n : ℕ) → ((i : ℕ) → suc i < n → f i ≤ f (suc i)) → (i j : ℕ) → i ≤ j → j < n
    → f i ≤ f j
climbs f n each i zero low inside =
    let is : i ≡ zero = omega arith in
    omega (arith, ap f is)
climbs f n each i (suc j) low inside = elim (cases_lt i (suc j)) [
  | inl less ↦ omega (arith, climbs f n each i j (omega arith) (omega arith), each j inside)
  | inr past ↦ (let is : i ≡ suc j = omega arith in let e = ap f is in omega arith)
]

step_up : (at next size rank other : ℕ) → next ≡ at + size → rank < 2 ^ 32
    → (size ≡ 0 → rank ≤ other) → at * 2 ^ 32 + rank ≤ next * 2 ^ 32 + other
step_up at next size rank other is small rises = elim (cases_eq size 0) [
  | inl none ↦ omega (arith, rises none)
  | inr some ↦ omega arith
]

module _ (file front : List ℕ) (blocks : List Blob) (ranks : List ℕ)
    (laid : AreLaid file front blocks ranks) where
  -- how many bytes come before the block at an index
  before : ℕ → ℕ
  before i = length front + length (blocks_of (at_rank blocks) (take i ranks))

  inside_at : (i : ℕ) → i < length ranks → get_or ranks i 0 < length blocks
  inside_at i less =
      laid.inside (get_or ranks i 0) (times-some (get_or ranks i 0) ranks i 0 less refl)

  start_is : (i : ℕ) → i < length ranks → get_or (offsets_in file) (get_or ranks i 0) 0 ≡ before i
  unfolding before
  start_is i less = laid.offset (get_or ranks i 0) (inside_at i less)
      ∙ offset_at (at_rank blocks) (length front) ranks i less laid.once

  before_more : (i : ℕ) → i < length ranks
      → before (i + 1) ≡ before i + block_size (get_or blocks (get_or ranks i 0) None)
  unfolding before
  before_more i less =
      let f : ℕ → List ℕ = λ rank. block_bytes (get_or blocks rank None) in
      let rank : ℕ = get_or ranks i 0 in
      let parts = ap (λ xs. length (flat_map f xs)) (take_more ranks i 0 less)
      ∙ ap length (flat_map-append f (take i ranks) (rank ∷ []))
      ∙ length-append (flat_map f (take i ranks)) (flat_map f (rank ∷ [])) in
      omega (arith, ap length (append-nil (f rank)))

  before_all : (i : ℕ) → length ranks ≤ i → before i ≡ length file
  unfolding before
  before_all i past =
      let all = ap (λ xs. length (blocks_of (at_rank blocks) xs)) (take_all i ranks past) in
      let long = ap length laid.is ∙ length-append front (blocks_of (at_rank blocks) ranks) in
      omega arith

  -- a rank that isn't there has no offset
  none_at : (q : ℕ) → times q ranks ≡ 0 → get_or (offsets_in file) q 0 ≡ 0
  none_at q none = elim (cases_lt q (length blocks)) [
    | inl less ↦ laid.offset q less ∙ offset_none (at_rank blocks) (length front) ranks q none
    | inr past ↦ (let long = laid.long in get_or_past (offsets_in file) q 0 (omega arith))
  ]

  some_at : (q : ℕ) → 0 < times q ranks → 0 < get_or (offsets_in file) q 0
  some_at q there =
      let inside = laid.inside q there in
      omega (arith, laid.offset q inside, offset_low (at_rank blocks) (length front) ranks q there)

  same_times : (q : ℕ) → times q (filter (has_start (offsets_in file))
      (range_with_len 0 (length (offsets_in file)))) ≡ times q ranks
  same_times q =
      let offsets : List ℕ = offsets_in file in
      let once = laid.once q in
      elim (cases_eq (times q ranks) 0) [
        | inl none ↦ (let fails : has_start offsets q ≡ false =
            le-ltb 0 (get_or offsets q 0) (omega (arith, none_at q none)) in
            let no = times_not (has_start offsets) q (range_with_len 0 (length offsets)) fails in
            omega arith)
        | inr there ↦ (let inside = laid.inside q (omega arith) in
            let passes : has_start offsets q ≡ true =
            lt-ltb 0 (get_or offsets q 0) (some_at q (omega arith)) in
            let most = times_once (has_start offsets) q 0 (length offsets) in
            let least =
            times_in (has_start offsets) q 0 (length offsets) (omega arith) (omega arith) passes in
            omega arith)
      ]

  pub starts_all : IsPermutation (starts_in (offsets_in file)) (starts_of (offsets_in file) ranks)
  starts_all =
      let offsets : List ℕ = offsets_in file in
      let kept : List ℕ = filter (has_start offsets) (range_with_len 0 (length offsets)) in
      subst (λ starts. IsPermutation starts (map (start_of offsets) ranks))
      (sym (starts_kept offsets (range_with_len 0 (length offsets))))
      (IsPermutation-map (start_of offsets) kept ranks (permuted kept ranks same_times))

  number_at : ℕ → ℕ
  number_at i = get_or (offsets_in file) (get_or ranks i 0) 0 * 2 ^ 32 + get_or ranks i 0

  number_rises : (i : ℕ) → suc i < length ranks → number_at i ≤ number_at (suc i)
  unfolding number_at
  number_rises i less =
      let one = start_is i (omega arith) in
      let two = start_is (suc i) less in
      let next : i + 1 ≡ suc i = omega arith in
      let more = sym (ap before next) ∙ before_more i (omega arith) in
      let inside = inside_at i (omega arith) in
      step_up (get_or (offsets_in file) (get_or ranks i 0) 0) (get_or (offsets_in file)
      (get_or ranks (suc i) 0) 0) (block_size (get_or blocks (get_or ranks i 0) None))
      (get_or ranks i 0) (get_or ranks (suc i) 0) (omega arith) (omega arith) (laid.rises i less)

  pub starts_rise : IsNonDecreasingBy order (starts_of (offsets_in file) ranks)
  unfolding number_at
  starts_rise = λ i j d low inside. (let offsets : List ℕ = offsets_in file in
      let long = length-map ranks (start_of offsets) in
      let one = ap order (get_or-map (start_of offsets) ranks i 0 d (omega arith)) in
      let two = ap order (get_or-map (start_of offsets) ranks j 0 d (omega arith)) in
      omega (arith, climbs number_at (length ranks) number_rises i j low (omega arith)))

  low_all : (k : ℕ) → k < length (offsets_in file) → get_or (offsets_in file) k 0 ≤ length file
  low_all k inside =
      let is = laid.offset k (omega arith) in
      let most = offset_most (at_rank blocks) (length front) ranks k in
      let size = ap length laid.is ∙ length-append front (blocks_of (at_rank blocks) ranks) in
      omega arith

  pub sorted : AreSortedIn file ranks
  sorted = record {
    few = omega arith;
    most = low_all;
    all = starts_all;
    rising = starts_rise;
  }

  -- ---- each block ends where the next one begins

  begins_is : (i : ℕ) → begin_in file ranks i ≡ before i
  begins_is i = elim (cases_lt i (length ranks)) [
    | inl less ↦ (place_of file ranks i sorted less).begin ∙ start_is i less
    | inr past ↦ (let long = length-map ranks (start_of (offsets_in file)) in
        begins_past (length file) (starts_of (offsets_in file) ranks) i (omega arith)
        ∙ sym (before_all i (omega arith)))
  ]

  pub first_is : begin_in file ranks 0 ≡ length front
  unfolding before
  first_is = begins_is 0 ∙ omega arith

  cut_here : (i : ℕ) → i < length ranks → slice_range file (before i) (before (i + 1))
      ≡ block_bytes (get_or blocks (get_or ranks i 0) None)
  unfolding before
  cut_here i less =
      let f : ℕ → List ℕ = λ rank. block_bytes (get_or blocks rank None) in
      let bytes : List ℕ = f (get_or ranks i 0) in
      let front_bytes : List ℕ = flat_map f (take i ranks) in
      let rest : List ℕ = flat_map f (drop (i + 1) ranks) in
      let parts : flat_map f ranks ≡ front_bytes ++ (bytes ++ rest) = cc (
        take-append-drop i ranks,
        flat_map-append f (take i ranks) (drop i ranks),
        rest_from ranks i less,
      ) in
      let first = append_assoc front front_bytes (bytes ++ rest) in
      let whole : file ≡ (front ++ front_bytes) ++ (bytes ++ rest) = cc laid.is in
      let more = before_more i less in
      let size : before (i + 1) - before i ≡ length bytes = omega arith in
      let long = length-append front front_bytes in
      let second = drop_at (front ++ front_bytes) (bytes ++ rest) (before i) (omega arith) in
      cc (take_at bytes rest (length bytes) refl)

  block_there_is : (i : ℕ) → i < length ranks → get_or blocks (get_or ranks i 0) None
      ≡ block_at file (get_or ranks i 0) (get_or (offsets_in file) (get_or ranks i 0) 0)
  block_there_is i less =
      let rank : ℕ = get_or ranks i 0 in
      let offsets : List ℕ = offsets_in file in
      let inside = inside_at i less in
      let first =
      some_of (get_or blocks rank None) (laid.there rank (times-some rank ranks i 0 less refl)) in
      let second = cut_here i less in
      let third = begins_is i in
      let fourth = begins_is (i + 1) in
      let fifth = block_here file ranks i sorted less in
      let sixth = get_or-map-range_with_len (λ r. block_at file r (slice_index offsets r)) 0
      (length offsets) rank rank None (omega arith) (omega arith) in
      cc

  pub blocks_back : blocks ≡ blocks_in file
  blocks_back =
      let offsets : List ℕ = offsets_in file in
      fill_by_all (λ rank. block_at file rank (slice_index offsets rank)) blocks
      (length offsets) None (sym laid.long) (λ rank inside. elim (cases_eq (times rank ranks) 0) [
        | inl none ↦ (let fails : is_some (get_or blocks rank None) ≡ false = not_true
            (is_some (get_or blocks rank None)) (λ yes. omega (arith, laid.all rank yes)) in
            cc (none_of (get_or blocks rank None) fails, none_at rank none))
        | inr some ↦ (let found = contained-times rank ranks (omega arith) in
            let is : get_or ranks found.0 0 ≡ rank =
            get_or-same ranks found.0 0 rank found.1 ∙ found.2 in
            subst (λ q. get_or blocks q None ≡ block_at file q (get_or offsets q 0)) is
            (block_there_is found.0 found.1))
      ])
