-- The ranks of the blocks of a file, sorted by where the blocks begin.
use Rattle.file_parts.proofs.AllWords.{◌≡◌, ℕ, zero, suc, ◌+◌, ◌<◌, Bool, true, false, List, [], ◌∷◌, ◌++◌, length, get_or, map, refl, sym, ap, subst, arith, nat_lt, filter, slice_index, range_with_len, IsPermutation, IsNonDecreasingBy, lt-ltb, le-ltb, length-map, get_or-map, All-filter, filter_of_map_range_with_len_more, get_or-map-range_with_len, length-map-range_with_len, All-permutation, IsPermutation-map, start_of, is_block_there, order, none, IsOrderOf, block_order, block_starts, BlockStart, cases_Bool, inl, inr}
use Rattle.std.specs.List.{All}
use Rattle.std.proofs.lemmas.List.{append-nil}
use Rattle.file_parts.proofs.ExactBlocks.{Start}

abbrev there : BlockStart → Bool
there start = nat_lt 0 start.at

abbrev block_at : List ℕ → ℕ → BlockStart
block_at offsets rank = record { at = slice_index offsets rank; rank = rank }

-- the starts of the blocks of the first ranks
abbrev pub first_starts : List ℕ → ℕ → List BlockStart
first_starts offsets rank = filter (λ start. nat_lt 0 start.at)
    (map (λ r. record { at = slice_index offsets r; rank = r }) (range_with_len 0 rank))

pub one_more : (offsets : List ℕ) (rank at : ℕ) → at ≡ slice_index offsets rank → 0 < at
    → first_starts offsets rank ++ record { at = at; rank = rank } ∷ []
    ≡ first_starts offsets (rank + 1)
one_more offsets rank at is some =
    let yes : there (block_at offsets rank) ≡ true =
    lt-ltb 0 (slice_index offsets rank) (omega arith) in
    cc (filter_of_map_range_with_len_more there (block_at offsets) 0 rank rank (omega arith))

pub none_more : (offsets : List ℕ) (rank at : ℕ) → at ≡ slice_index offsets rank → at ≡ 0
    → first_starts offsets rank ≡ first_starts offsets (rank + 1)
none_more offsets rank at is zero_at =
    let no : there (block_at offsets rank) ≡ false =
    le-ltb 0 (slice_index offsets rank) (omega arith) in
    let first = append-nil (first_starts offsets rank) in
    cc (filter_of_map_range_with_len_more there (block_at offsets) 0 rank rank (omega arith))

-- ---- once they are sorted

same_starts : (offsets ranks : List ℕ)
    → map (λ (start : BlockStart). start_of offsets start.rank) (filter there
    (map (block_at offsets) ranks)) ≡ filter is_block_there (map (start_of offsets) ranks)
same_starts offsets [] = refl
same_starts offsets (rank ∷ ranks) = elim (cases_Bool (nat_lt 0 (slice_index offsets rank))) [
  | inl is ↦ rw is (ap (λ starts. start_of offsets rank ∷ starts) (same_starts offsets ranks))
  | inr is ↦ rw is (same_starts offsets ranks)
]

both_maps : (offsets : List ℕ) (items : List BlockStart)
    → map (λ (start : BlockStart). start_of offsets start.rank) items
    ≡ map (start_of offsets) (map (λ (start : BlockStart). start.rank) items)
both_maps offsets [] = refl
both_maps offsets (item ∷ items) = cc (both_maps offsets items)

IsStart : List ℕ → BlockStart → Type 0
IsStart offsets start = start.at ≡ slice_index offsets start.rank

none_start : BlockStart
none_start = record { at = 0; rank = 0 }

all_starts : (offsets : List ℕ)
    → All (IsStart offsets) (map (block_at offsets) (range_with_len 0 (length offsets)))
unfolding IsStart
all_starts offsets = λ k d inside.
    let long = length-map-range_with_len (block_at offsets) 0 (length offsets) in
    subst (IsStart offsets) (sym (get_or-map-range_with_len (block_at offsets) 0
    (length offsets) k k d (omega arith) (omega arith))) refl

item_order : (offsets : List ℕ) (items : List BlockStart) (k : ℕ)
    → IsPermutation (block_starts offsets) items → k < length items
    → order (get_or (map (start_of offsets) (map (λ (start : BlockStart). start.rank) items)) k
    none) ≡ block_order (get_or items k none_start)
unfolding IsStart none_start
item_order offsets items k all inside =
    let is = All-permutation (IsStart offsets) (block_starts offsets) items all
    (All-filter there (IsStart offsets) (map (block_at offsets) (range_with_len 0 (length offsets)))
    (all_starts offsets)) k none_start inside in
    let long = length-map items (λ (start : BlockStart). start.rank) in
    let first = get_or-map (start_of offsets)
    (map (λ (start : BlockStart). start.rank) items) k 0 none (omega arith) in
    cc (get_or-map (λ (start : BlockStart). start.rank) items k none_start 0 inside)

-- any default serves inside a list
same_inside : (xs : List Start) (k : ℕ) (d : Start) → k < length xs
    → get_or xs k d ≡ get_or xs k none
same_inside [] k d inside = absurd (omega arith)
same_inside (x ∷ xs) zero d inside = refl
same_inside (x ∷ xs) (suc k) d inside = same_inside xs k d (omega arith)

pub order_is : (offsets : List ℕ) (items : List BlockStart) (ranks : List ℕ)
    → IsPermutation (block_starts offsets) items → IsNonDecreasingBy block_order items
    → ranks ≡ map (λ (start : BlockStart). start.rank) items → IsOrderOf offsets ranks
unfolding none_start
order_is offsets items ranks all rising is =
    let named : List ℕ = map (λ (start : BlockStart). start.rank) items in
    let long = length-map items (λ (start : BlockStart). start.rank) in
    let longer = length-map named (start_of offsets) in
    let sorted : IsOrderOf offsets named = record {
      all = subst (λ starts. IsPermutation starts (map (start_of offsets) named))
          (same_starts offsets (range_with_len 0 (length offsets)))
          (subst (λ starts. IsPermutation (map (λ (start : BlockStart). start_of offsets start.rank)
          (block_starts offsets)) starts) (both_maps offsets items) (IsPermutation-map
          (λ (start : BlockStart). start_of offsets start.rank) (block_starts offsets) items all));
      rising = λ i j d less inside. (let one = item_order offsets items i all (omega arith) in
          let other = item_order offsets items j all (omega arith) in
          let risen = rising i j none_start less (omega arith) in
          let first = ap order (same_inside (map (start_of offsets) named) i d (omega arith)) in
          omega (arith, ap order (same_inside (map (start_of offsets) named) j d inside)));
    } in
    subst (IsOrderOf offsets) (sym is) sorted
