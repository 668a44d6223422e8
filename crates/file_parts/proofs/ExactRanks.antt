-- The order of the blocks of a file, as a text gives it.
use Rattle.file_parts.proofs.AllWords.{◌≡◌, ℕ, zero, suc, ◌+◌, ◌<◌, ◌≤◌, Bool, true, false, None, List, [], ◌∷◌, ◌++◌, length, get_or, take, drop, refl, sym, ap, subst, ◌∙◌, arith, inl, inr, append-nil, add-one, drop-cons, ◌==◌, nat_le, filter, is_some, All, range_with_len, and_parts, cases_eq, cases_lt, eq-eqb, leb-true, drop_all, get_or-take, length-map, length-take-le, take_more, get_or-map-range_with_len, times, blocks_in, offsets_in, block_at, times-some, contained-times, start_of, ranks_apart, start_found, block_there, is_other, is_rising, order_of, unless_rising, order_fault, Blob, cases_Bool, passing}
use Rattle.file_parts.proofs.ExactBlocks.{place_of, start_at, starts_of, zero_of, AreSortedIn}
use Rattle.file_parts.proofs.ExactTextBack.{lines_at}

-- ---- lists of ranks that rise

pub rising_at : (xs : List ℕ) (i j : ℕ) → is_rising xs ≡ true → i < j → j < length xs
    → get_or xs i 0 ≤ get_or xs j 0
rising_at [] i j rising less inside = absurd (omega arith)
rising_at (x ∷ []) i j rising less inside = absurd (omega arith)
rising_at (x ∷ y ∷ ys) i zero rising less inside = absurd (omega arith)
rising_at (x ∷ y ∷ ys) zero (suc zero) rising less inside =
    leb-true x y (and_parts (nat_le x y) (is_rising (y ∷ ys)) rising).0
rising_at (x ∷ y ∷ ys) zero (suc (suc j)) rising less inside =
    let parts = and_parts (nat_le x y) (is_rising (y ∷ ys)) rising in
    let first = leb-true x y parts.0 in
    omega (arith, rising_at (y ∷ ys) zero (suc j) parts.1 (omega arith) (omega arith))
rising_at (x ∷ y ∷ ys) (suc i) (suc j) rising less inside = rising_at (y ∷ ys) i j
    (and_parts (nat_le x y) (is_rising (y ∷ ys)) rising).1 (omega arith) (omega arith)

filter_none : (test : ℕ → Bool) (from n : ℕ) → ((r : ℕ) → from ≤ r → r < from + n → test r ≡ false)
    → passing test from n ≡ []
filter_none test from zero none = refl
filter_none test from (suc n) none = rw (none from (omega arith) (omega arith))
    (filter_none test (from + 1) n (λ r low high. none r (omega arith) (omega arith)))

pub not_true : (v : Bool) → (v ≡ true → ⊥) → v ≡ false
not_true true never = absurd (never refl)
not_true false never = refl

pub true_false : true ≡ false → ⊥
true_false e = cc

pub cases_above : (m n : ℕ) → m ≤ n → (n ≡ m → ⊥) → m < n
cases_above m n low apart = elim (cases_lt m n) [
  | inl less ↦ less
  | inr most ↦ absurd (apart (omega arith))
]

shift : (x r : ℕ) (xs : List ℕ) → (x ≡ r → ⊥)
    → ((j : ℕ) × (j < length (x ∷ xs)) × (get_or (x ∷ xs) j 0 ≡ r))
    → (j : ℕ) × (j < length xs) × (get_or xs j 0 ≡ r)
shift x r xs other (zero, inside, is) = absurd (other is)
shift x r xs other (suc j, inside, is) = (j, omega arith, is)

at_least : (x : ℕ) (xs : List ℕ) (j : ℕ)
    → ((i j : ℕ) → i < j → j < length (x ∷ xs) → get_or (x ∷ xs) i 0 < get_or (x ∷ xs) j 0)
    → j < length (x ∷ xs) → x ≤ get_or (x ∷ xs) j 0
at_least x xs zero rising inside = omega arith
at_least x xs (suc j) rising inside = omega (arith, rising 0 (suc j) (omega arith) inside)

pub get_or-same : (xs : List ℕ) (k d e : ℕ) → k < length xs → get_or xs k d ≡ get_or xs k e
get_or-same [] k d e inside = absurd (omega arith)
get_or-same (x ∷ xs) zero d e inside = refl
get_or-same (x ∷ xs) (suc k) d e inside = get_or-same xs k d e (omega arith)

-- ranks that rise are those of a range that pass a test, if the same ranks pass it
pub record AreThose (test : ℕ → Bool) (from n : ℕ) (xs : List ℕ) : Type 0 where
  pub low : (j : ℕ) → j < length xs → from ≤ get_or xs j 0
  pub high : (j : ℕ) → j < length xs → get_or xs j 0 < from + n
  pub rising : (i j : ℕ) → i < j → j < length xs → get_or xs i 0 < get_or xs j 0
  pub there : (r : ℕ) → from ≤ r → r < from + n → test r ≡ true
      → (j : ℕ) × (j < length xs) × (get_or xs j 0 ≡ r)
  pub passes : (j : ℕ) → j < length xs → test (get_or xs j 0) ≡ true

pub those_are : (test : ℕ → Bool) (from n : ℕ) (xs : List ℕ) → AreThose test from n xs
    → passing test from n ≡ xs
those_are test from zero [] are = refl
those_are test from zero (x ∷ xs) are = let low = are.low 0 (omega arith) in
    let high = are.high 0 (omega arith) in absurd (omega arith)
those_are test from (suc n) [] are = filter_none test from (suc n) (λ r low high. not_true (test r)
    (λ yes. (let found = are.there r low high yes in let inside = found.1 in omega arith)))
those_are test from (suc n) (x ∷ xs) are = elim (cases_eq x from) [
  | inl is ↦
      let yes : test from ≡ true = subst (λ r. test r ≡ true) is (are.passes 0 (omega arith)) in
      let more = those_are test (from + 1) n xs (record {
        low = λ j inside. omega (arith, are.rising 0 (suc j) (omega arith) (omega arith));
        high = λ j inside. omega (arith, are.high (suc j) (omega arith));
        rising = λ i j less inside. are.rising (suc i) (suc j) (omega arith) (omega arith);
        there = λ r low high passes. shift x r xs (λ same. (omega arith))
            (are.there r (omega arith) (omega arith) passes);
        passes = λ j inside. are.passes (suc j) (omega arith);
      }) in
      rw yes (ap (λ y. y ∷ passing test (from + 1) n) (sym is) ∙ ap (λ ys. x ∷ ys) more)
  | inr apart ↦
      let first = are.low 0 (omega arith) in
      let no : test from ≡ false = not_true (test from) (λ yes.
      (let found = are.there from (omega arith) (omega arith) yes in
      let least = at_least x xs found.0 are.rising found.1 in
      apart (omega arith))) in
      let above : from < x = cases_above from x first apart in
      rw no (those_are test (from + 1) n (x ∷ xs) (record {
        low = λ j inside. omega (arith, at_least x xs j are.rising inside);
        high = λ j inside. omega (arith, are.high j inside);
        rising = are.rising;
        there = λ r low high passes. are.there r (omega arith) (omega arith) passes;
        passes = are.passes;
      }))
]

-- ---- the blocks of a file

-- these blocks are there for the same ranks as those of the file
pub record AreThereAs (file : List ℕ) (blocks : List Blob) : Type 0 where
  pub long : length blocks ≡ length (offsets_in file)
  pub some : (r : ℕ) → r < length (offsets_in file)
      → is_some (get_or blocks r None) ≡ is_some (get_or (blocks_in file) r None)

block_is : (file : List ℕ) (r : ℕ) → r < length (offsets_in file)
    → get_or (blocks_in file) r None ≡ block_at file r (get_or (offsets_in file) r 0)
block_is file r inside = get_or-map-range_with_len (λ rank. block_at file rank
    (get_or (offsets_in file) rank 0)) 0 (length (offsets_in file)) r r None inside (omega arith)

some_there : (file : List ℕ) (r : ℕ) → r < length (offsets_in file)
    → 0 < get_or (offsets_in file) r 0 → is_some (get_or (blocks_in file) r None) ≡ true
some_there file r inside some =
    ap is_some (block_is file r inside ∙ block_there file r (get_or (offsets_in file) r 0) some)

none_there : (file : List ℕ) (r : ℕ) → r < length (offsets_in file)
    → get_or (offsets_in file) r 0 ≡ 0 → is_some (get_or (blocks_in file) r None) ≡ false
none_there file r inside none = cc (block_is file r inside)

-- the rank of a block that is there is in the order
pub found_in : (file ranks : List ℕ) (r : ℕ) → AreSortedIn file ranks → r < length (offsets_in file)
    → is_some (get_or (blocks_in file) r None) ≡ true
    → (j : ℕ) × (j < length ranks) × (get_or ranks j 0 ≡ r)
found_in file ranks r sorted inside some =
    let offsets : List ℕ = offsets_in file in
    let long = length-map ranks (start_of offsets) in
    elim (cases_eq (get_or offsets r 0) 0) [
      | inl absent ↦ absurd (true_false (sym some ∙ none_there file r inside absent))
      | inr there ↦
          let found = start_found offsets (length file) (starts_of offsets ranks) sorted r inside
          (omega arith) in (
            found.0,
            omega arith,
            sym (ap (λ start. start.rank) (start_at offsets ranks found.0 (omega arith))) ∙ found.2,
          )
    ]

pub apart : (file ranks : List ℕ) (i j : ℕ) → AreSortedIn file ranks → i < j → j < length ranks
    → get_or ranks i 0 ≡ get_or ranks j 0 → ⊥
apart file ranks i j sorted less inside same =
    let offsets : List ℕ = offsets_in file in
    let long = length-map ranks (start_of offsets) in
    ranks_apart offsets (length file) (starts_of offsets ranks) sorted i j less (omega arith)
    (ap (λ start. start.rank) (start_at offsets ranks i (omega arith)) ∙ same
    ∙ sym (ap (λ start. start.rank) (start_at offsets ranks j inside)))

pub rank_there : (file ranks : List ℕ) (blocks : List Blob) (j : ℕ) → AreSortedIn file ranks
    → AreThereAs file blocks → j < length ranks
    → is_some (get_or blocks (get_or ranks j 0) None) ≡ true
rank_there file ranks blocks j sorted are inside =
    let place = place_of file ranks j sorted inside in
    are.some (get_or ranks j 0) place.inside
    ∙ some_there file (get_or ranks j 0) place.inside place.some

-- ---- the order of a text is that of the file

rising_back : (file ranks : List ℕ) (blocks : List Blob) → AreSortedIn file ranks
    → AreThereAs file blocks → is_rising ranks ≡ true
    → filter (is_other blocks []) (range_with_len 0 (length blocks)) ≡ ranks
rising_back file ranks blocks sorted are rising =
    those_are (is_other blocks []) 0 (length blocks) ranks (record {
      low = λ j inside. omega arith;
      high = λ j inside. omega (arith, (place_of file ranks j sorted inside).inside);
      rising = λ i j less inside. cases_above (get_or ranks i 0) (get_or ranks j 0) (rising_at ranks
          i j rising less inside) (λ same. apart file ranks i j sorted less inside (sym same));
      there = λ r low high yes.
          (let parts = and_parts (is_some (get_or blocks r None)) (times r [] == 0) yes in
          let inside : r < length (offsets_in file) = omega arith in
          found_in file ranks r sorted inside (sym (are.some r inside) ∙ parts.0));
      passes = λ j inside. rw (rank_there file ranks blocks j sorted are inside) refl;
    })

none_left : (file ranks : List ℕ) (blocks : List Blob) → AreSortedIn file ranks
    → AreThereAs file blocks
    → filter (is_other blocks ranks) (range_with_len 0 (length blocks)) ≡ []
none_left file ranks blocks sorted are = filter_none (is_other blocks ranks) 0 (length blocks)
    (λ r low high. not_true (is_other blocks ranks r)
    (λ yes. (let parts = and_parts (is_some (get_or blocks r None)) (times r ranks == 0) yes in
    let inside : r < length (offsets_in file) = omega arith in
    let found = found_in file ranks r sorted inside (sym (are.some r inside) ∙ parts.0) in
    omega (arith, times-some r ranks found.0 0 found.1 found.2, zero_of (times r ranks) parts.1))))

pub order_back : (file ranks : List ℕ) (blocks : List Blob) → AreSortedIn file ranks
    → AreThereAs file blocks → order_of blocks (unless_rising ranks) ≡ ranks
order_back file ranks blocks sorted are = elim (cases_Bool (is_rising ranks)) [
  | inl is ↦ rw is (rising_back file ranks blocks sorted are is)
  | inr is ↦
      rw is (ap (λ xs. ranks ++ xs) (none_left file ranks blocks sorted are) ∙ append-nil ranks)
]

-- ---- no line `order` is faulty

pub rest_from : (xs : List ℕ) (i : ℕ) → i < length xs → drop i xs ≡ get_or xs i 0 ∷ drop (i + 1) xs
rest_from xs i inside = rw (add-one, drop-cons xs i 0) refl

pub free_here : (file ranks : List ℕ) (blocks : List Blob) (i : ℕ) → AreSortedIn file ranks
    → AreThereAs file blocks → i < length ranks
    → is_other blocks (take i ranks) (get_or ranks i 0) ≡ true
free_here file ranks blocks i sorted are inside =
    let rank : ℕ = get_or ranks i 0 in
    let none : (times rank (take i ranks) == 0) ≡ true =
    elim (cases_eq (times rank (take i ranks)) 0) [
      | inl is ↦ eq-eqb (times rank (take i ranks)) 0 is
      | inr some ↦ (let found = contained-times rank (take i ranks) (omega arith) in
          let front = length-take-le i ranks (omega arith) in
          let before : found.0 < i = omega arith in
          absurd (apart file ranks found.0 i sorted before inside (sym (get_or-take i ranks found.0
          0 before) ∙ get_or-same (take i ranks) found.0 0 rank found.1 ∙ found.2)))
    ] in
    rw (rank_there file ranks blocks i sorted are inside, none) refl

none_faulty : (file ranks : List ℕ) (blocks : List Blob) (n i line : ℕ) → AreSortedIn file ranks
    → AreThereAs file blocks → i + n ≡ length ranks
    → order_fault blocks (take i ranks) (lines_at line (drop i ranks)) ≡ None
none_faulty file ranks blocks zero i line sorted are left = cc (drop_all i ranks (omega arith))
none_faulty file ranks blocks (suc n) i line sorted are left =
    let less : i < length ranks = omega arith in
    ap (λ rs. order_fault blocks (take i ranks) (lines_at line rs)) (rest_from ranks i less)
    ∙ rw (free_here file ranks blocks i sorted are less) (ap (λ front. order_fault blocks front
    (lines_at (line + 1) (drop (i + 1) ranks))) (sym (take_more ranks i 0 less))
    ∙ none_faulty file ranks blocks n (i + 1) (line + 1) sorted are (omega arith))

pub order_good : (file ranks : List ℕ) (blocks : List Blob) (line : ℕ) → AreSortedIn file ranks
    → AreThereAs file blocks → order_fault blocks [] (lines_at line (unless_rising ranks)) ≡ None
order_good file ranks blocks line sorted are = elim (cases_Bool (is_rising ranks)) [
  | inl is ↦ rw is refl
  | inr is ↦ rw is (none_faulty file ranks blocks (length ranks) 0 line sorted are (omega arith))
]

pub ranks_small : (file ranks : List ℕ) → AreSortedIn file ranks → length (offsets_in file) ≤ 65537
    → All (λ rank. rank < 65538) (unless_rising ranks)
ranks_small file ranks sorted few = elim (cases_Bool (is_rising ranks)) [
  | inl is ↦ rw is (λ k d inside. absurd (omega arith))
  | inr is ↦ rw is (λ k d inside.
      omega (arith, (place_of file ranks k sorted inside).inside, get_or-same ranks k d 0 inside))
]
