-- Blocks that are put at their ranks, one sorted start after the other, are the places of the file.
use Rattle.std.proofs.Common.{◌≡◌, ℕ, zero, suc, ◌+◌, ◌<◌, ◌≤◌, List, [], ◌∷◌, length, get_or, set, map, Option, Some, None, refl, sym, ap, subst, ◌∙◌, arith, inl, inr}
use Rattle.std.specs.Prelude.{◌^◌, min, slice_index}
use Rattle.std.specs.List.{All, fold, sum_by, range_with_len}
use Rattle.std.specs.List.Sorted.{IsPermutation, IsNonDecreasingBy}
use Rattle.std.proofs.lemmas.Bool.{cases_eq, cases_lt}
use Rattle.std.proofs.lemmas.List.{length-map, length-set, get_or_past, get_or_default, get_or-set_same, get_or-set_other}
use Rattle.std.proofs.lemmas.List.FromFn.{fill_by_all}
use Rattle.std.proofs.lemmas.List.Sums.{sum_by-set, sum_by-le}
use Rattle.heap_model.specs.Files.{starts_behind, offsets_in, block_end, block_at, blocks_in, entries_end, HasNoFault}
use Rattle.pdb_format.specs.declared.starts.Start.{Start}
use Rattle.pdb_format.specs.declared.blocks.Block.{Block}
use Rattle.pdb_format.specs.Starts.{starts_in, order, begins}
use Rattle.pdb_format.specs.Blocks.{bytes_at, place_at, places_in, IsBlockWithin, length_within}
use Rattle.pdb_format.proofs.GoodFiles.{not_truncated, offset_after, offset_inside_file}
use Rattle.pdb_format.proofs.SortedStarts.{none, AreSorted, items_are, ranks_apart, start_found, begins_inside, sorted_end}

-- the block of an index among sorted starts
abbrev pub placed : ℕ → List Start → ℕ → Block
placed last items index =
    record { start = (get_or items index none).at; end = begins last items (index + 1) }

-- The blocks of the first starts are put down at their ranks, and nothing at other ranks.
pub record ArePut (offsets : List ℕ) (last : ℕ) (items : List Start) (blocks : List (Option Block))
    (index : ℕ) : Type 0 where
  pub room : length blocks ≡ length offsets
  pub put : (j : ℕ) → j < index
      → get_or blocks (get_or items j none).rank None ≡ Some (placed last items j)
  pub rest : (rank : ℕ) → ((j : ℕ) → j < index → (get_or items j none).rank ≡ rank → ⊥)
      → get_or blocks rank None ≡ None

-- at first nothing is put down
pub nothing_put : (offsets : List ℕ) (last : ℕ) (items : List Start) (blocks : List (Option Block))
    → length blocks ≡ length offsets → All (λ block. block ≡ None) blocks
    → ArePut offsets last items blocks 0
nothing_put offsets last items blocks room empty = record {
  room = room;
  put = λ j less. absurd (omega arith);
  rest = λ rank none_has. elim (cases_lt rank (length blocks)) [
    | inl inside ↦ empty rank None inside
    | inr past ↦ get_or_past blocks rank None past
  ];
}

pub put_more : (offsets : List ℕ) (last : ℕ) (items : List Start) (blocks : List (Option Block))
    (index : ℕ)
    → AreSorted offsets last items → index < length items → ArePut offsets last items blocks index
    → ArePut offsets last items (set blocks (get_or items index none).rank (Some (placed last items index))) (index + 1)
put_more offsets last items blocks index sorted inside are =
    let rank : ℕ = (get_or items index none).rank in
    let own = (items_are offsets last items sorted index inside).0.0 in
    let room = are.room in
    record {
      room = length-set blocks rank (Some (placed last items index)) ∙ are.room;
      put = λ j less. elim (cases_lt j index) [
        | inl before ↦
            get_or-set_other blocks rank (get_or items j none).rank (Some (placed last items index))
            None (λ e. ranks_apart _ last items sorted j index before inside e)
            ∙ are.put j before
        | inr here ↦
            let is : index ≡ j = omega arith in
            subst (λ (k : ℕ). get_or (set blocks rank (Some (placed last items index)))
            (get_or items k none).rank None ≡ Some (placed last items k)) is
            (get_or-set_same blocks rank (Some (placed last items index)) None (omega arith))
      ];
      rest = λ other none_has.
          get_or-set_other blocks rank other (Some (placed last items index)) None
          (λ e. none_has index (omega arith) (sym e))
          ∙ are.rest other (λ j less e. none_has j (omega arith) e);
    }

-- a block that begins after the file's start
some_block : ℕ → ℕ → Option Block
some_block start end = Some (record { start = start; end = end })

place_there : (file : List ℕ) (rank at : ℕ) → 0 < at
    → place_at file rank at ≡ some_block at (block_end file rank at)
unfolding some_block
place_there file rank zero low = absurd (omega arith)
place_there file rank (suc at) low = refl

-- once all are put down, each is at its place
pub all_placed : (file : List ℕ) (items : List Start) (blocks : List (Option Block))
    → AreSorted (offsets_in file) (length file) items
    → ArePut (offsets_in file) (length file) items blocks (length items)
    → blocks ≡ places_in file
unfolding some_block
all_placed file items blocks sorted are =
    let offsets : List ℕ = offsets_in file in
    fill_by_all (λ rank. place_at file rank (slice_index offsets rank)) blocks
    (length offsets) None are.room (λ rank inside.
    elim (cases_eq (get_or offsets rank 0) 0) [
      | inl absent ↦
          let no_start : (j : ℕ) → j < length items → (get_or items j none).rank ≡ rank → ⊥ =
          λ j less e.
          let own = items_are offsets (length file) items sorted j less in
          let some = own.1 in
          let at = own.0.1 ∙ ap (λ (r : ℕ). get_or offsets r 0) e in
          omega arith in
          are.rest rank no_start ∙ ap (place_at file rank) (sym absent)
      | inr there ↦
          let found = start_found offsets (length file) items sorted rank inside (omega arith) in
          let at = found.3 in
          let ends = sorted_end offsets (length file) items sorted found.0 found.1 in
          let block =
          ap (λ (r : ℕ). get_or blocks r None) (sym found.2) ∙ are.put found.0 found.1 in
          let end_is : begins (length file) items (found.0 + 1)
          ≡ block_end file rank (get_or offsets rank 0) =
          sym ends
          ∙ ap (λ (r : ℕ). fold min (length file)
          (starts_behind offsets r (get_or items found.0 none).at)) found.2
          ∙ ap (λ (o : ℕ). fold min (length file) (starts_behind offsets rank o)) at in
          block
          ∙ ap (λ (o : ℕ). some_block o (begins (length file) items (found.0 + 1))) at
          ∙ ap (some_block (get_or offsets rank 0)) end_is
          ∙ sym (place_there file rank (get_or offsets rank 0) (omega arith))
    ])

-- the bytes at the places are the blocks
bytes_of_place : (file : List ℕ) (rank at : ℕ)
    → bytes_at file (place_at file rank at) ≡ block_at file rank at
bytes_of_place file rank zero = refl
bytes_of_place file rank (suc at) = refl

bytes_of_places : (file : List ℕ) (ranks : List ℕ)
    → map (bytes_at file) (map (λ rank. place_at file rank (slice_index (offsets_in file) rank)) ranks)
    ≡ map (λ rank. block_at file rank (slice_index (offsets_in file) rank)) ranks
bytes_of_places file [] = refl
bytes_of_places file (rank ∷ ranks) =
    let at = slice_index (offsets_in file) rank in
    ap (λ (x : Option (List ℕ)). x
    ∷ map (bytes_at file) (map (λ r. place_at file r (slice_index (offsets_in file) r)) ranks))
    (bytes_of_place file rank at)
    ∙ ap (λ (xs : List (Option (List ℕ))). block_at file rank at ∷ xs) (bytes_of_places file ranks)

pub all_put : (file : List ℕ) (blocks : List (Option Block)) → blocks ≡ places_in file
    → map (bytes_at file) blocks ≡ blocks_in file
all_put file blocks placed =
    ap (map (bytes_at file)) placed
    ∙ bytes_of_places file (range_with_len 0 (length (offsets_in file)))

-- ---- they lie within the file

placed_within : (offsets : List ℕ) (last : ℕ) (items : List Start) → AreSorted offsets last items
    → (index : ℕ) → index < length items → IsBlockWithin last (Some (placed last items index))
placed_within offsets last items sorted index inside =
    let own = (items_are offsets last items sorted index inside).0 in
    let own_inside = own.0 in
    let own_at = own.1 in
    let own_most = sorted.most (get_or items index none).rank own_inside in
    elim (cases_lt (index + 1) (length items)) [
      | inl next ↦
          let is = begins_inside last items (index + 1) next in
          let other = (items_are offsets last items sorted (index + 1) next).0 in
          let other_inside = other.0 in
          let other_at = other.1 in
          let most = sorted.most (get_or items (index + 1) none).rank other_inside in
          let few = sorted.few in
          let rises = sorted.rising index (index + 1) none (omega arith) next in
          (omega arith, omega arith)
      | inr none_next ↦
          let long = length-map items (λ (start : Start). start.at) in
          let is : begins last items (index + 1) ≡ last = get_or_past
          (map (λ (start : Start). start.at) items) (index + 1) last (omega arith) in
          (omega arith, omega arith)
    ]

pub all_within : (offsets : List ℕ) (last : ℕ) (items : List Start) (blocks : List (Option Block))
    → AreSorted offsets last items → ArePut offsets last items blocks (length items)
    → All (IsBlockWithin last) blocks
all_within offsets last items blocks sorted are = λ rank d inside.
    let room = are.room in
    let same = get_or_default blocks rank d None inside in
    subst (IsBlockWithin last) (sym same) (elim (cases_eq (get_or offsets rank 0) 0) [
      | inl absent ↦
          let no_start : (j : ℕ) → j < length items → (get_or items j none).rank ≡ rank → ⊥ =
          λ j less e.
          let own = items_are offsets last items sorted j less in
          let some = own.1 in
          let at = own.0.1 ∙ ap (λ (r : ℕ). get_or offsets r 0) e in
          omega arith in
          subst (IsBlockWithin last) (sym (are.rest rank no_start)) tt
      | inr there ↦
          let found = start_found offsets last items sorted rank (omega arith) (omega arith) in
          let block =
          ap (λ (r : ℕ). get_or blocks r None) (sym found.2) ∙ are.put found.0 found.1 in
          subst (IsBlockWithin last) (sym block) (placed_within _ last items sorted found.0 found.1)
    ])

-- ---- they take no more than the file

-- while nothing is put down, no bytes are taken
pub none_taken : (blocks : List (Option Block)) → All (λ block. block ≡ None) blocks
    → sum_by length_within blocks ≡ 0
none_taken blocks empty =
    let none_long : (block : Option Block) → block ≡ None → length_within block ≤ 0 = λ block e.
    omega (arith, ap length_within e) in
    let most = sum_by-le length_within 0 blocks
    (λ k d inside. none_long (get_or blocks k d) (empty k d inside)) in
    omega arith

-- the blocks that are put down take all from the first start up to where the next one begins
pub taken_more : (offsets : List ℕ) (last : ℕ) (items : List Start) (blocks : List (Option Block))
    (index : ℕ)
    → AreSorted offsets last items → index < length items → ArePut offsets last items blocks index
    → sum_by length_within blocks + begins last items 0 ≡ begins last items index
    → sum_by length_within (set blocks (get_or items index none).rank (Some (placed last items index))) + begins last items 0
    ≡ begins last items (index + 1)
taken_more offsets last items blocks index sorted inside are so_far =
    let rank : ℕ = (get_or items index none).rank in
    let own = (items_are offsets last items sorted index inside).0.0 in
    let room = are.room in
    let empty = are.rest rank (λ j less e. ranks_apart _ last items sorted j index less inside e) in
    let more = sum_by-set length_within blocks rank (Some (placed last items index)) None
    (omega arith) in
    let was : length_within (get_or blocks rank None) ≡ 0 = ap length_within empty in
    let within = placed_within offsets last items sorted index inside in
    let first = within.0 in
    let here = begins_inside last items index inside in
    omega arith

-- once all are put down, they take no more than there is from the first of them on
pub taken_most : (last low : ℕ) (items : List Start) (blocks : List (Option Block)) (index : ℕ)
    → length items ≤ index → low ≤ begins last items 0
    → sum_by length_within blocks + begins last items 0 ≡ begins last items index
    → low + sum_by length_within blocks ≤ last
taken_most last low items blocks index all first so_far =
    let long = length-map items (λ (start : Start). start.at) in
    let is : begins last items index ≡ last = get_or_past
    (map (λ (start : Start). start.at) items) index last (omega arith) in
    omega arith

-- the first of them comes after the entries
pub first_behind : (file : List ℕ) (items : List Start) → HasNoFault file
    → AreSorted (offsets_in file) (length file) items
    → entries_end file ≤ begins (length file) items 0
first_behind file items good sorted = elim (cases_lt 0 (length items)) [
  | inl some ↦
      let here = begins_inside (length file) items 0 some in
      let are = items_are (offsets_in file) (length file) items sorted 0 some in
      let at = are.0.1 in
      let there = are.1 in
      let after = offset_after file good (get_or items 0 none).rank (omega arith) in
      omega arith
  | inr empty ↦
      let long = length-map items (λ (start : Start). start.at) in
      let is : begins (length file) items 0 ≡ length file = get_or_past
      (map (λ (start : Start). start.at) items) 0 (length file) (omega arith) in
      let inside = (not_truncated file good).1 in
      omega arith
]

-- the sorted starts of a file without fault
pub file_sorted : (file : List ℕ) (items : List Start) → HasNoFault file
    → length (offsets_in file) ≤ 2 ^ 32 → IsPermutation (starts_in (offsets_in file)) items
    → IsNonDecreasingBy order items → AreSorted (offsets_in file) (length file) items
file_sorted file items good few all rising =
    record { few = few; most = offset_inside_file file good; all = all; rising = rising }
