-- The places of the blocks of a file without fault can be found: its starts can be sorted.
use Rattle.std.proofs.Common.{◌≡◌, ℕ, zero, suc, ◌+◌, ◌≤◌, Bool, true, false, Option, None, List, [], ◌∷◌, length, get_or, replicate, refl, subst, arith, inl, inr}
use Rattle.std.specs.Prelude.{◌^◌, All, nat_le}
use Rattle.std.specs.List.{insert, prefix_len, sum_by}
use Rattle.std.specs.List.Sorted.{IsPermutation, IsNonDecreasingBy}
use Rattle.std.proofs.lemmas.Bool.{cases_lt, leb-true}
use Rattle.std.proofs.lemmas.List.{length-replicate}
use Rattle.std.proofs.lemmas.List.Elements.{All-replicate}
use Rattle.std.proofs.lemmas.List.Sorted.{IsPermutation-refl, IsPermutation-cons, IsPermutation-trans, IsPermutation-insert, IsNonDecreasingBy-short, IsNonDecreasingBy-insert}
use Rattle.std.proofs.lemmas.List.Sums.{prefix_len-le-length, prefix_len_passes, prefix_len_stops}
use Rattle.laws_heap.proofs.Tests.{leb-is-true}
use Rattle.heap_model.specs.Files.{HasNoFault, entries_end, offsets_in}
use Rattle.pdb_format.specs.Blocks.{length_within}
use Rattle.pdb_format.specs.Opened.{HasPlaces}
use Rattle.pdb_format.specs.Starts.{begins, order, starts_in}
use Rattle.pdb_format.specs.declared.blocks.Block.{Block}
use Rattle.pdb_format.proofs.PlacedBlocks.{ArePut, all_placed, all_put, all_within, file_sorted, first_behind, none_taken, nothing_put, put_more, taken_more, taken_most}
use Rattle.pdb_format.proofs.SortedStarts.{AreSorted}

-- ---- a list can be sorted

pub record IsSorting {X : Type 0} (n : X → ℕ) (xs : List X) : Type 0 where
  pub sorted : List X
  pub same : IsPermutation xs sorted
  pub rising : IsNonDecreasingBy n sorted

not_above : {X : Type 0} (n : X → ℕ) (x y : X) → nat_le (n y) (n x) ≡ false → n x ≤ n y
not_above n x y above = elim (cases_lt (n x) (n y)) [
  | inl less ↦ omega arith
  | inr most ↦ absurd (none (nat_le (n y) (n x)) above (leb-is-true (n y) (n x) most))
] where
  none : (b : Bool) → b ≡ false → b ≡ true → ⊥
  none true e f = absurd cc
  none false e f = absurd cc

pub sorting : {X : Type 0} (n : X → ℕ) (xs : List X) → IsSorting n xs
sorting {X} n [] = record {
  sorted = [];
  same = IsPermutation-refl [];
  rising = IsNonDecreasingBy-short n [] (omega arith);
}
sorting {X} n (x ∷ xs) =
    let rest = sorting n xs in
    let ys = rest.sorted in
    let low : X → Bool = λ y. nat_le (n y) (n x) in
    let i = prefix_len low ys in
    record {
      sorted = insert ys i x;
      same = IsPermutation-trans (x ∷ xs) (x ∷ ys) (insert ys i x)
          (IsPermutation-cons x xs ys rest.same) (IsPermutation-insert ys i x);
      rising = IsNonDecreasingBy-insert n ys i x rest.rising (prefix_len-le-length low ys)
          (λ k d before. leb-true (n (get_or ys k d)) (n x) (prefix_len_passes low ys k d before))
          (λ k d from inside. (
          let stops = not_above n x (get_or ys i d) (prefix_len_stops low ys d (omega arith)) in
          let rises = rest.rising i k d from inside in
          omega arith));
    }

-- ---- the blocks are put down

record PutTo (offsets : List ℕ) (last : ℕ) (items : List _) (index : ℕ) : Type 0 where
  blocks : List (Option Block)
  put : ArePut offsets last items blocks index
  taken : sum_by length_within blocks + begins last items 0 ≡ begins last items index

put_to : (offsets : List ℕ) (last : ℕ) (items : List _) → AreSorted offsets last items → (index : ℕ)
    → index ≤ length items → PutTo offsets last items index
put_to offsets last items sorted zero most =
    let blocks : List (Option Block) = replicate (length offsets) None in
    let empty : All (λ block. block ≡ None) blocks =
    All-replicate (λ block. block ≡ None) (length offsets) None refl in
    let none = none_taken blocks empty in
    record {
      blocks = blocks;
      put = nothing_put offsets last items _ (length-replicate (length offsets) None) empty;
      taken = omega arith;
    }
put_to offsets last items sorted (suc index) most =
    let before = put_to offsets last items sorted index (omega arith) in
    let next : index + 1 ≡ suc index = omega arith in
    subst (PutTo offsets last items) next (record {
      blocks = _;
      put = put_more offsets last items before.blocks index sorted (omega arith) before.put;
      taken = taken_more offsets last items before.blocks index sorted
          (omega arith) before.put before.taken;
    })

-- ---- the places

pub record FindsPlaces (file : List ℕ) : Type 0 where
  pub blocks : List (Option Block)
  pub places : HasPlaces file blocks

pub finds_places : (file : List ℕ) → HasNoFault file → length (offsets_in file) ≤ 2 ^ 32
    → FindsPlaces file
finds_places file good few =
    let starts = sorting order (starts_in (offsets_in file)) in
    let items = starts.sorted in
    let sorted = file_sorted file items good few starts.same starts.rising in
    let all = put_to (offsets_in file) (length file) items sorted (length items) (omega arith) in
    let placed = all_placed file items all.blocks sorted all.put in
    record {
      blocks = all.blocks;
      places = record {
        good = good;
        places = placed;
        are = all_put file all.blocks placed;
        within = all_within (offsets_in file) (length file) items all.blocks sorted all.put;
        total = taken_most (length file) (entries_end file) items all.blocks (length items)
            (omega arith) (first_behind file items good sorted) all.taken;
      };
    }
