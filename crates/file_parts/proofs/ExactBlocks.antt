-- The blocks of a file in their order are the rest of the file, and begin at its offsets.
use Rattle.file_parts.proofs.AllWords.{◌≡◌, ℕ, zero, suc, ◌+◌, ◌-◌, ◌^◌, ◌<◌, ◌≤◌, Bool, true, false, Some, None, List, [], ◌∷◌, ◌++◌, length, get_or, drop, map, refl, sym, ap, subst, ◌∙◌, arith, inl, inr, add-one, drop-cons, ◌⊎◌, ◌==◌, min, nat_lt, filter, slice_index, slice_range, flat_map, fold, cases_eq, cases_lt, lt-ltb, ltb-true, length-map, length-drop, length-take, get_or-map, get_or_past, drop_all, drop-drop, take-append-drop, filter_passes, get_or-map-range_with_len, HasNoFault, blocks_in, offsets_in, block_at, block_bytes, block_end, block_size, start_of, begins, first_start, none, AreSorted, items_are, ranks_apart, start_found, begins_inside, sorted_end, block_there, IsOrderOf, offset_among, Blob, cases_Bool}
use Rattle.pdb_format.proofs.PlacedBlocks.{file_sorted}

-- the type of starts, which their crate doesn't name for others
abbrev type_of : {A : Type 0} → A → Type 0
type_of {A = A} x = A

abbrev pub Start : Type 0
Start = type_of none

-- a number that is tested
pub zero_of : (n : ℕ) → (n == 0) ≡ true → n ≡ 0
zero_of n is = grind arith

-- ---- the least of some numbers

fold_reached : (last e k : ℕ) (xs : List ℕ) → e ≤ last
    → ((j : ℕ) → j < length xs → e ≤ get_or xs j 0)
    → (e ≡ last) ⊎ ((k < length xs) × (get_or xs k 0 ≡ e)) → fold min last xs ≡ e
fold_reached last e k [] most low (inl is) = sym is
fold_reached last e k [] most low (inr there) = absurd (omega arith)
fold_reached last e k (x ∷ xs) most low (inl is) =
    let first = low 0 (omega arith) in
    fold_reached (min last x) e k xs (omega arith) (λ j less. low (suc j) (omega arith))
    (inl (omega arith))
fold_reached last e zero (x ∷ xs) most low (inr there) = fold_reached (min last x) e zero xs
    (omega arith) (λ j less. low (suc j) (omega arith)) (inl (omega arith))
fold_reached last e (suc k) (x ∷ xs) most low (inr there) =
    let first = low 0 (omega arith) in
    let less = there.0 in
    fold_reached (min last x) e k xs (omega arith) (λ j less. low (suc j) (omega arith))
    (inr (omega arith, there.1))

-- a number that passes a test is among those that do
kept_at : (test : ℕ → Bool) (xs : List ℕ) (k : ℕ) → k < length xs → test (get_or xs k 0) ≡ true
    → (j : ℕ) × (j < length (filter test xs)) × (get_or (filter test xs) j 0 ≡ get_or xs k 0)
kept_at test [] k inside passes = absurd (omega arith)
kept_at test (x ∷ xs) zero inside passes = rw passes (0, omega arith, refl)
kept_at test (x ∷ xs) (suc k) inside passes = elim (cases_Bool (test x)) [
  | inl is ↦
      let found = kept_at test xs k (omega arith) passes in
      rw is (suc found.0, omega arith, found.2)
  | inr is ↦ rw is (kept_at test xs k (omega arith) passes)
]

-- ---- the starts of ranks

-- the starts of the ranks, as they are sorted
abbrev pub starts_of : List ℕ → List ℕ → List Start
starts_of offsets ranks = map (start_of offsets) ranks

-- the bytes of a rank among some blocks, and of a file
abbrev pub at_rank : List Blob → ℕ → Blob
at_rank blocks rank = get_or blocks rank None

abbrev pub rank_bytes : List ℕ → ℕ → List ℕ
rank_bytes file rank = block_bytes (at_rank (blocks_in file) rank)

-- the offsets of a file rise in the order of some ranks, and where the block at an index begins
abbrev pub AreSortedIn : List ℕ → List ℕ → Type 0
AreSortedIn file ranks =
    AreSorted (offsets_in file) (length file) (starts_of (offsets_in file) ranks)

abbrev pub begin_in : List ℕ → List ℕ → ℕ → ℕ
begin_in file ranks i = begins (length file) (starts_of (offsets_in file) ranks) i

pub start_at : (offsets ranks : List ℕ) (i : ℕ) → i < length ranks
    → get_or (starts_of offsets ranks) i none ≡ start_of offsets (get_or ranks i 0)
start_at offsets ranks i inside = get_or-map (start_of offsets) ranks i 0 none inside

pub ranks_sorted : (file ranks : List ℕ) → HasNoFault file → length (offsets_in file) ≤ 2 ^ 32
    → IsOrderOf (offsets_in file) ranks → AreSortedIn file ranks
ranks_sorted file ranks good few is =
    file_sorted file (starts_of (offsets_in file) ranks) good few is.all is.rising

-- what is known of a rank of the order
pub record IsPlace (file ranks : List ℕ) (i : ℕ) : Type 0 where
  pub inside : get_or ranks i 0 < length (offsets_in file)
  pub some : 0 < get_or (offsets_in file) (get_or ranks i 0) 0
  pub begin : begin_in file ranks i ≡ get_or (offsets_in file) (get_or ranks i 0) 0
  pub rises : begin_in file ranks i ≤ begin_in file ranks (i + 1)
  pub most : begin_in file ranks (i + 1) ≤ length file

pub begins_past : (last : ℕ) (items : List Start) (i : ℕ) → length items ≤ i
    → begins last items i ≡ last
begins_past last items i past =
    let long = length-map items (λ (start : Start). start.at) in
    get_or_past (map (λ (start : Start). start.at) items) i last (omega arith)

pub place_of : (file ranks : List ℕ) (i : ℕ) → AreSortedIn file ranks → i < length ranks
    → IsPlace file ranks i
place_of file ranks i sorted less =
    let offsets : List ℕ = offsets_in file in
    let items : List Start = starts_of offsets ranks in
    let long = length-map ranks (start_of offsets) in
    let one = items_are offsets (length file) items sorted i (omega arith) in
    let is = start_at offsets ranks i less in
    let rank_is : (get_or items i none).rank ≡ get_or ranks i 0 = ap (λ start. start.rank) is in
    let at_is : (get_or items i none).at ≡ get_or offsets (get_or ranks i 0) 0 =
    ap (λ start. start.at) is in
    let here = begins_inside (length file) items i (omega arith) in
    let in_rank = one.0.0 in
    let low = sorted.most (get_or items i none).rank in_rank in
    elim (cases_lt (i + 1) (length items)) [
      | inl next ↦
          let other = items_are offsets (length file) items sorted (i + 1) next in
          let other_rank = other.0.0 in
          let other_most = sorted.most (get_or items (i + 1) none).rank other_rank in
          let behind = begins_inside (length file) items (i + 1) next in
          let rising = sorted.rising i (i + 1) none (omega arith) next in
          omega arith
      | inr past ↦
          let behind = begins_past (length file) items (i + 1) past in
          omega arith
    ]

-- the block of a rank of the order lies between its start and the next one
pub block_here : (file ranks : List ℕ) (i : ℕ) → AreSortedIn file ranks → i < length ranks
    → get_or (blocks_in file) (get_or ranks i 0) None
    ≡ Some (slice_range file (begin_in file ranks i) (begin_in file ranks (i + 1)))
block_here file ranks i sorted less =
    let offsets : List ℕ = offsets_in file in
    let items : List Start = starts_of offsets ranks in
    let rank : ℕ = get_or ranks i 0 in
    let place = place_of file ranks i sorted less in
    let long = length-map ranks (start_of offsets) in
    let is = start_at offsets ranks i less in
    let ends : block_end file rank (slice_index offsets rank) ≡ begins (length file) items (i + 1) =
    subst (λ start. block_end file start.rank start.at ≡ begins (length file) items (i + 1)) is
    (sorted_end offsets (length file) items sorted i (omega arith)) in
    let first = get_or-map-range_with_len (λ r. block_at file r (slice_index offsets r)) 0
    (length offsets) rank rank None place.inside (omega arith) in
    cc (place.begin, block_there file rank (slice_index offsets rank) place.some)

-- ---- all of them

pub join : (file : List ℕ) (at end : ℕ) → at ≤ end
    → slice_range file at end ++ drop end file ≡ drop at file
join file at end low =
    let further : at + (end - at) ≡ end = omega arith in
    cc (drop-drop (end - at) at file, take-append-drop (end - at) (drop at file))

rest_from : (xs : List ℕ) (i : ℕ) → i < length xs → drop i xs ≡ get_or xs i 0 ∷ drop (i + 1) xs
rest_from xs i inside = rw (add-one, drop-cons xs i 0) refl

blocks_from : (file ranks : List ℕ) (n i : ℕ) → AreSortedIn file ranks → i + n ≡ length ranks
    → flat_map (rank_bytes file) (drop i ranks) ≡ drop (begin_in file ranks i) file
blocks_from file ranks zero i sorted left =
    let items : List Start = starts_of (offsets_in file) ranks in
    let long = length-map ranks (start_of (offsets_in file)) in
    let first = drop_all i ranks (omega arith) in
    cc (begins_past (length file) items i (omega arith), drop_all (length file) file (omega arith))
blocks_from file ranks (suc n) i sorted left =
    let items : List Start = starts_of (offsets_in file) ranks in
    let less : i < length ranks = omega arith in
    let place = place_of file ranks i sorted less in
    let more = blocks_from file ranks n (i + 1) sorted (omega arith) in
    let first = rest_from ranks i less in
    let second = block_here file ranks i sorted less in
    cc (join file (begins (length file) items i) (begins (length file) items (i + 1)) place.rises)

-- ---- the first of them

found_low : (file ranks : List ℕ) → AreSortedIn file ranks → (k : ℕ) → k < length (offsets_in file)
    → 0 < get_or (offsets_in file) k 0 → begin_in file ranks 0 ≤ get_or (offsets_in file) k 0
found_low file ranks sorted k inside some =
    let offsets : List ℕ = offsets_in file in
    let items : List Start = starts_of offsets ranks in
    let found = start_found offsets (length file) items sorted k inside some in
    let found_inside = found.1 in
    let here = begins_inside (length file) items 0 (omega arith) in
    let first = items_are offsets (length file) items sorted 0 (omega arith) in
    let other = items_are offsets (length file) items sorted found.0 found_inside in
    elim (cases_lt 0 found.0) [
      | inl later ↦ omega (arith, sorted.rising 0 found.0 none (omega arith) found_inside)
      | inr same ↦
          let is : found.0 ≡ 0 = omega arith in
          let same_at : (get_or items found.0 none).at ≡ (get_or items 0 none).at =
          ap (λ j. (get_or items j none).at) is in
          omega arith
    ]

index_of : (xs : List ℕ) (j : ℕ) → j < length (filter (nat_lt 0) xs)
    → (k : ℕ) × (k < length xs) × (get_or (filter (nat_lt 0) xs) j 0 ≡ get_or xs k 0)
index_of [] j less = absurd (omega arith)
index_of (x ∷ xs) j less = by_test (nat_lt 0 x) refl (index_of xs) j less where
  by_test : (v : Bool) → nat_lt 0 x ≡ v → ((j : ℕ) → j < length (filter (nat_lt 0) xs)
      → (k : ℕ) × (k < length xs) × (get_or (filter (nat_lt 0) xs) j 0 ≡ get_or xs k 0)) → (j : ℕ)
      → j < length (filter (nat_lt 0) (x ∷ xs)) → (k : ℕ) × (k < length (x ∷ xs))
      × (get_or (filter (nat_lt 0) (x ∷ xs)) j 0 ≡ get_or (x ∷ xs) k 0)
  by_test true is more zero less = rw is (0, omega arith, refl)
  by_test true is more (suc j) less =
      let inside : suc j < suc (length (filter (nat_lt 0) xs)) = rw is at less in
      let found = more j (omega arith) in
      rw is (suc found.0, omega arith, found.2)
  by_test false is more j less =
      let found = more j (rw is at less) in
      rw is (suc found.0, omega arith, found.2)

low_at : (file ranks : List ℕ) → AreSortedIn file ranks → (j : ℕ)
    → j < length (filter (nat_lt 0) (offsets_in file))
    → begin_in file ranks 0 ≤ get_or (filter (nat_lt 0) (offsets_in file)) j 0
low_at file ranks sorted j less =
    let found = index_of (offsets_in file) j less in
    let passes = filter_passes (nat_lt 0) (offsets_in file) j 0 less in
    let above = ltb-true 0 (get_or (filter (nat_lt 0) (offsets_in file)) j 0) passes in
    omega (arith, found_low file ranks sorted found.0 found.1 (omega arith))

pub first_begins : (file ranks : List ℕ) → AreSortedIn file ranks
    → begin_in file ranks 0 ≡ first_start file
first_begins file ranks sorted =
    let offsets : List ℕ = offsets_in file in
    let items : List Start = starts_of offsets ranks in
    let e : ℕ = begins (length file) items 0 in
    let long = length-map ranks (start_of offsets) in
    let low : (j : ℕ) → j < length (filter (nat_lt 0) offsets)
    → e ≤ get_or (filter (nat_lt 0) offsets) j 0 = λ j less. low_at file ranks sorted j less in
    sym (elim (cases_lt 0 (length ranks)) [
      | inl some ↦
          let place = place_of file ranks 0 sorted some in
          let inside = place.inside in
          let there = kept_at (nat_lt 0) offsets (get_or ranks 0 0) inside
          (lt-ltb 0 (get_or offsets (get_or ranks 0 0) 0) place.some) in
          fold_reached (length file) e there.0 (filter (nat_lt 0) offsets) (omega arith) low
          (inr (there.1, there.2 ∙ sym place.begin))
      | inr none_there ↦
          let past = begins_past (length file) items 0 (omega arith) in
          fold_reached (length file) e 0 (filter (nat_lt 0) offsets) (omega arith) low (inl past)
    ])

-- the blocks in their order are the rest of the file
pub blocks_rest : (file ranks : List ℕ) → AreSortedIn file ranks
    → flat_map (rank_bytes file) ranks ≡ drop (first_start file) file
blocks_rest file ranks sorted =
    let first = blocks_from file ranks (length ranks) 0 sorted (omega arith) in
    cc (first_begins file ranks sorted)

-- ---- their offsets

size_here : (file ranks : List ℕ) (i : ℕ) → AreSortedIn file ranks → i < length ranks
    → begin_in file ranks i + block_size (get_or (blocks_in file) (get_or ranks i 0) None)
    ≡ begin_in file ranks (i + 1)
size_here file ranks i sorted less =
    let items : List Start = starts_of (offsets_in file) ranks in
    let at : ℕ = begins (length file) items i in
    let end : ℕ = begins (length file) items (i + 1) in
    let place = place_of file ranks i sorted less in
    let size = ap block_size (block_here file ranks i sorted less) in
    omega (arith, length-drop at file, length-take (end - at) (drop at file))

abbrev offset_from : List ℕ → List ℕ → ℕ → ℕ → ℕ
offset_from file ranks i rank =
    offset_among (at_rank (blocks_in file)) (begin_in file ranks i) (drop i ranks) rank

offset_step : (file ranks : List ℕ) (i rank : ℕ) → AreSortedIn file ranks → i < length ranks
    → (get_or ranks i 0 ≡ rank → ⊥)
    → offset_from file ranks i rank ≡ offset_from file ranks (i + 1) rank
offset_step file ranks i rank sorted less other =
    let items : List Start = starts_of (offsets_in file) ranks in
    let block : ℕ → Blob = at_rank (blocks_in file) in
    let differs : (get_or ranks i 0 == rank) ≡ false = grind arith in
    ap (λ rs. offset_among block (begins (length file) items i) rs rank) (rest_from ranks i less)
    ∙ rw differs (ap (λ at. offset_among block at (drop (i + 1) ranks) rank)
    (size_here file ranks i sorted less))

offset_found : (file ranks : List ℕ) (n i j : ℕ) → AreSortedIn file ranks → i + n ≡ j
    → j < length ranks
    → offset_from file ranks i (get_or ranks j 0) ≡ get_or (offsets_in file) (get_or ranks j 0) 0
offset_found file ranks zero i j sorted is less =
    let items : List Start = starts_of (offsets_in file) ranks in
    let block : ℕ → Blob = at_rank (blocks_in file) in
    let same : i ≡ j = omega arith in
    let place = place_of file ranks j sorted less in
    let here : (get_or ranks j 0 == get_or ranks j 0) ≡ true = grind arith in
    ap (λ k. offset_from file ranks k (get_or ranks j 0)) same
    ∙ ap (λ rs. offset_among block (begins (length file) items j) rs (get_or ranks j 0))
    (rest_from ranks j less) ∙ rw here place.begin
offset_found file ranks (suc n) i j sorted is less =
    let offsets : List ℕ = offsets_in file in
    let long = length-map ranks (start_of offsets) in
    let before : i < length ranks = omega arith in
    let other : get_or ranks i 0 ≡ get_or ranks j 0 → ⊥ =
    λ same. ranks_apart offsets (length file) (starts_of offsets ranks) sorted i j (omega arith)
    (omega arith) (ap (λ start. start.rank) (start_at offsets ranks i before) ∙ same
    ∙ sym (ap (λ start. start.rank) (start_at offsets ranks j less))) in
    offset_step file ranks i (get_or ranks j 0) sorted before other
    ∙ offset_found file ranks n (i + 1) j sorted (omega arith) less

offset_none : (file ranks : List ℕ) (n i rank : ℕ) → AreSortedIn file ranks → i + n ≡ length ranks
    → get_or (offsets_in file) rank 0 ≡ 0 → offset_from file ranks i rank ≡ 0
offset_none file ranks zero i rank sorted left absent =
    let items : List Start = starts_of (offsets_in file) ranks in
    cc (drop_all i ranks (omega arith))
offset_none file ranks (suc n) i rank sorted left absent =
    let less : i < length ranks = omega arith in
    let place = place_of file ranks i sorted less in
    let other : get_or ranks i 0 ≡ rank → ⊥ =
    λ same. omega (arith, ap (λ r. get_or (offsets_in file) r 0) same) in
    offset_step file ranks i rank sorted less other
    ∙ offset_none file ranks n (i + 1) rank sorted (omega arith) absent

-- each block begins at the offset of its rank
pub offset_back : (file ranks : List ℕ) (rank : ℕ) → AreSortedIn file ranks
    → rank < length (offsets_in file) → offset_among (at_rank (blocks_in file))
    (begin_in file ranks 0) ranks rank ≡ get_or (offsets_in file) rank 0
offset_back file ranks rank sorted inside =
    let offsets : List ℕ = offsets_in file in
    let items : List Start = starts_of offsets ranks in
    let long = length-map ranks (start_of offsets) in
    elim (cases_eq (get_or offsets rank 0) 0) [
      | inl absent ↦
          offset_none file ranks (length ranks) 0 rank sorted (omega arith) absent ∙ sym absent
      | inr there ↦
          let found = start_found offsets (length file) items sorted rank inside (omega arith) in
          let less = found.1 in
          let is : get_or ranks found.0 0 ≡ rank =
          sym (ap (λ start. start.rank) (start_at offsets ranks found.0 (omega arith))) ∙ found.2 in
          subst (λ r. offset_from file ranks 0 r ≡ get_or offsets r 0) is
          (offset_found file ranks found.0 0 found.0 sorted (omega arith) (omega arith))
    ]

-- a block without bytes comes before one of a greater rank
pub none_misplaced : (file ranks : List ℕ) (i : ℕ) → AreSortedIn file ranks → i + 1 < length ranks
    → block_size (get_or (blocks_in file) (get_or ranks i 0) None) ≡ 0
    → get_or ranks i 0 ≤ get_or ranks (i + 1) 0
none_misplaced file ranks i sorted next empty =
    let offsets : List ℕ = offsets_in file in
    let items : List Start = starts_of offsets ranks in
    let long = length-map ranks (start_of offsets) in
    let size = size_here file ranks i sorted (omega arith) in
    let here = begins_inside (length file) items i (omega arith) in
    let behind = begins_inside (length file) items (i + 1) (omega arith) in
    let rising = sorted.rising i (i + 1) none (omega arith) (omega arith) in
    let one = ap (λ start. start.rank) (start_at offsets ranks i (omega arith)) in
    omega (arith, ap (λ start. start.rank) (start_at offsets ranks (i + 1) next))

-- the place of the first of some ranks, and of a later one
pub at_first : (place : ℕ → ℕ) (rank at : ℕ) → place (rank + 0) ≡ at → place rank ≡ at
at_first place rank at is = let here : rank + 0 ≡ rank = omega arith in sym (ap place here) ∙ is

pub at_next : (place : ℕ → ℕ) (rank k at : ℕ) → place (rank + suc k) ≡ at
    → place (rank + 1 + k) ≡ at
at_next place rank k at is = let next : rank + 1 + k ≡ rank + suc k = omega arith in
    ap place next ∙ is
