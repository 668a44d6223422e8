-- A file with a block replaced is read back as this file.
use Rattle.file_parts.proofs.AllWords.{◌≡◌, ℕ, ◌+◌, ◌<◌, ◌≤◌, Bool, true, false, Option, None, List, [], ◌∷◌, length, get_or, refl, sym, ap, subst, ◌∙◌, arith, inl, inr, All, IfOk, Result, Ok, Err, ◌==◌, ◌&&◌, nat_lt, is_some, slice_index, and_from, and_parts, cases_lt, eq-eqb, eqb-true, ltb-true, All-head, All-tail, All-nil, All-cons, times, Entry, a_record, a_resource, data_in, entry_with, has_resources, block_size, blocks_in, contained-times, times-some, most_bytes, IsWritableEntry, block_count, offset_count, PlaceFault, IsPlaceFault, Replacing, ExactFile, exact_block, exact_bytes, exact_size, is_misplaced, exact_of, IsReplaced, IsReplacing, IsReplaceFault, Replaces, block_in, block_replaced, entries_replaced, bytes_replaced, exact_replacing, has_block_of_rank, size_fault}
use Rattle.file_parts.specs.declared.replaced.Replaced.{Replaced}
use Rattle.file_parts.specs.declared.replaced.ReplaceFault.{ReplaceFault}
use Rattle.file_parts.specs.declared.exact_writing.PlaceFault.TheVariants as places
use Rattle.file_parts.proofs.ExactFits.{all_writable, count_small, file_header, file_name}
use Rattle.file_parts.proofs.ExactFolders.{names_are}
use Rattle.file_parts.proofs.ExactInside.{inside_some}
use Rattle.file_parts.proofs.ExactNames.{after_right}
use Rattle.file_parts.proofs.ExactPackedBack.{after_good}
use Rattle.file_parts.proofs.ExactRanks.{AreThereAs, found_in, get_or-same, not_true, rank_there, true_false}
use Rattle.file_parts.proofs.ExactReadBack.{IsSound, file_long, reads_back}
use Rattle.file_parts.proofs.ExactSpelled.{bytes_are, placed_well}
use Rattle.file_parts.proofs.ReplacedFiles.{block_is, count_is, exactly_in, rank_inside, rank_once, sorted_in}
use Rattle.file_parts.proofs.Replacements.{length-replaced, replaced_else, replaced_here, replaced_none, same_file}

-- ---- its entries

one_writable : (r : Bool) (at : ℕ) (bytes : List ℕ) (rank : ℕ) (e : Entry (Option (List ℕ)))
    → IsWritableEntry r e → IsWritableEntry r (entry_with (block_replaced at bytes rank) e)
one_writable false at bytes rank (a_record attributes id block) one =
    (one.0, one.1, λ none. one.2 (replaced_none at bytes rank block none))
one_writable true at bytes rank (a_resource kind id block) one =
    (one.0, one.1, λ none. one.2 (replaced_none at bytes rank block none))
one_writable true at bytes rank (a_record attributes id block) one = absurd one
one_writable false at bytes rank (a_resource kind id block) one = absurd one

writable : (r : Bool) (at : ℕ) (bytes : List ℕ) (rank : ℕ) (es : List (Entry (Option (List ℕ))))
    → All (IsWritableEntry r) es → All (IsWritableEntry r) (entries_replaced at bytes rank es)
writable r at bytes rank [] all = All-nil (IsWritableEntry r)
writable r at bytes rank (e ∷ es) all = All-cons (IsWritableEntry r)
    (entry_with (block_replaced at bytes rank) e) (entries_replaced at bytes (rank + 1) es)
    (one_writable r at bytes rank e (All-head (IsWritableEntry r) e es all))
    (writable r at bytes (rank + 1) es (All-tail (IsWritableEntry r) e es all))

-- ---- the order of its blocks

pub there_as : (file : List ℕ) → AreThereAs file (blocks_in file)
there_as file =
    let count = block_count file in
    let offsets = offset_count file in
    record { long = omega arith; some = λ r inside. refl }

there_new : (r : Replacing) (q : ℕ) → IsReplacing r → q < length (blocks_in r.unpacked.file)
    → has_block_of_rank r.unpacked.file q ≡ true
    → is_some (exact_block (exact_replacing r) q) ≡ true
there_new r q g inside some = ap is_some (block_is r q inside) ∙ by_test (q == r.at) refl where
  by_test : (v : Bool) → (q == r.at) ≡ v
      → is_some (block_replaced r.at r.part.now q (block_in r.unpacked.file q)) ≡ true
  by_test true is = rw is refl
  by_test false is = rw is some

there_old : (r : Replacing) (q : ℕ) → IsReplacing r → q < length (blocks_in r.unpacked.file)
    → is_some (exact_block (exact_replacing r) q) ≡ true
    → has_block_of_rank r.unpacked.file q ≡ true
there_old r q g inside some = by_test (q == r.at) refl where
  by_test : (v : Bool) → (q == r.at) ≡ v → has_block_of_rank r.unpacked.file q ≡ true
  by_test true is = ap (has_block_of_rank r.unpacked.file) (eqb-true q r.at is) ∙ g.there
  by_test false is = ap is_some (sym (block_is r q inside
      ∙ replaced_else r.at r.part.now q (block_in r.unpacked.file q) is)) ∙ some

there : (r : Replacing) (q : ℕ) → IsReplacing r → 0 < times q r.unpacked.ranks.items
    → is_some (exact_block (exact_replacing r) q) ≡ true
there r q g some =
    let file : List ℕ = r.unpacked.file in
    let ranks : List ℕ = r.unpacked.ranks.items in
    let found = contained-times q ranks some in
    let is : get_or ranks found.0 0 ≡ q = get_or-same ranks found.0 0 q found.1 ∙ found.2 in
    let here : has_block_of_rank file q ≡ true = ap (has_block_of_rank file) (sym is)
    ∙ rank_there _ ranks _ found.0 (sorted_in r g) (there_as file) found.1 in
    there_new r q g (inside_some (blocks_in file) q here) here

all : (r : Replacing) (q : ℕ) → IsReplacing r → is_some (exact_block (exact_replacing r) q) ≡ true
    → 0 < times q r.unpacked.ranks.items
all r q g some =
    let file : List ℕ = r.unpacked.file in
    let ranks : List ℕ = r.unpacked.ranks.items in
    let count = count_is r in
    let less = inside_some (data_in (exact_replacing r).database) q some in
    let inside : q < length (blocks_in file) = omega arith in
    let blocks = block_count file in
    let offsets = offset_count file in
    let found = found_in file ranks q (sorted_in r g) (omega arith) (there_old r q g inside some) in
    times-some q ranks found.0 0 found.1 found.2

-- ---- all of it

module _ (r : Replacing) (g : IsReplacing r)
    (placed : (index : ℕ) → is_misplaced (exact_replacing r) index ≡ false)
    (size : exact_size (exact_replacing r) ≤ most_bytes) where
  pub sound : IsSound (exact_replacing r)
  sound =
      let file : List ℕ = r.unpacked.file in
      let exact : ExactFile = exact_of r.unpacked in
      let many = length-replaced r.at r.part.now 2 exact.database.entries in
      let few = count_small file g.numbers in
      record {
        name = file_name file g.good.good;
        header = file_header file g.numbers;
        entries = writable (has_resources exact.database.header.attributes) r.at r.part.now 2
            exact.database.entries (all_writable file g.good.good g.numbers);
        few = omega arith;
        after = after_good exact.database.header.name exact.after_name
            (after_right _ _ _ (names_are _ _ (exactly_in r g)));
        once = λ q. rank_once r q g;
        there = λ q some. there r q g some;
        all = λ q some. all r q g some;
        placed = placed;
        size = omega arith;
      }

  pub size_is : exact_size (exact_replacing r) ≡ length (exact_bytes (exact_replacing r))
  size_is = sym (file_long (exact_replacing r) sound)

  pub replaces : Replaces r.unpacked.file r.at r.part.now (exact_bytes (exact_replacing r))
  replaces =
      let long = size_is in
      let exact : ExactFile = exact_of r.unpacked in
      let exactly = exactly_in r g in
      record {
        exact = exact;
        exactly = exactly;
        there = g.there;
        is = refl;
        fits = omega arith;
        read = reads_back (exact_replacing r) sound;
        same = λ is. ap exact_bytes (same_file exact r.at r.part.now
            (ap (λ (bs : List (Option (List ℕ))). get_or bs r.at None) exactly.blocks ∙ is))
            ∙ bytes_are _ _ g.numbers exactly;
      }

-- ---- blocks that are misplaced

pub in_order : (exact : ExactFile)
    → ((k : ℕ) → k < length exact.order → is_misplaced exact k ≡ false) → (index : ℕ)
    → is_misplaced exact index ≡ false
in_order exact each index = elim (cases_lt index (length exact.order)) [
  | inl less ↦ each index less
  | inr past ↦ not_true (is_misplaced exact index) (λ is.
      (let here : Bool = nat_lt (index + 1) (length exact.order) in
      let falls : Bool =
      nat_lt (slice_index exact.order (index + 1)) (slice_index exact.order index) in
      let parts = and_parts (here && falls)
      (block_size (exact_block exact (slice_index exact.order index)) == 0) is in
      let less = ltb-true (index + 1) (length exact.order) (and_parts here falls parts.0).0 in
      omega arith))
]

-- the part of a misplaced block is empty
pub part_empty : (r : Replacing) (index : ℕ) → IsReplacing r
    → is_misplaced (exact_replacing r) index ≡ true → length r.part.now ≡ 0
part_empty r index g is =
    let ranks : List ℕ = r.unpacked.ranks.items in
    let rank : ℕ = slice_index ranks index in
    let here : Bool = nat_lt (index + 1) (length ranks) in
    let falls : Bool = nat_lt (slice_index ranks (index + 1)) rank in
    let parts =
    and_parts (here && falls) (block_size (exact_block (exact_replacing r) rank) == 0) is in
    let first = and_parts here falls parts.0 in
    let less = ltb-true (index + 1) (length ranks) first.0 in
    let inside = rank_inside r index g (omega arith) in
    let none = eqb-true (block_size (exact_block (exact_replacing r) rank)) 0 parts.1 in
    by_test here falls parts.0 inside none (rank == r.at) refl
  where
    by_test : (here falls : Bool) → (nat_lt (index + 1) (length r.unpacked.ranks.items) && nat_lt
        (slice_index r.unpacked.ranks.items (index + 1)) (slice_index r.unpacked.ranks.items index))
        ≡ true → slice_index r.unpacked.ranks.items index < length (blocks_in r.unpacked.file)
        → block_size (exact_block (exact_replacing r) (slice_index r.unpacked.ranks.items index))
        ≡ 0 → (v : Bool) → (slice_index r.unpacked.ranks.items index == r.at) ≡ v
        → length r.part.now ≡ 0
    by_test here falls front inside none true is = (let rank : ℕ =
        slice_index r.unpacked.ranks.items index in sym (ap block_size (block_is r rank inside
        ∙ replaced_here r.at r.part.now rank (block_in r.unpacked.file rank) is)) ∙ none)
    by_test here falls front inside none false is =
        let rank : ℕ = slice_index r.unpacked.ranks.items index in
        let old : block_size (exact_block (exact_of r.unpacked) rank) ≡ 0 =
        ap (λ (bs : List (Option (List ℕ))). block_size (get_or bs rank None))
        (exactly_in r g).blocks ∙ sym (ap block_size (block_is r rank inside
        ∙ replaced_else r.at r.part.now rank (block_in r.unpacked.file rank) is)) ∙ none in
        let placed = placed_well _ _ g.numbers (exactly_in r g) index in
        absurd (true_false (sym (and_from (nat_lt (index + 1) (length r.unpacked.ranks.items)
        && nat_lt (slice_index r.unpacked.ranks.items (index + 1)) rank)
        (block_size (exact_block (exact_of r.unpacked) rank) == 0) front
        (eq-eqb (block_size (exact_block (exact_of r.unpacked) rank)) 0 old)) ∙ placed))

-- ---- what `replace_block` returns

pub place_why : (r : Replacing) (fault : PlaceFault) (result : ReplaceFault) → IsReplacing r
    → result ≡ size_fault fault → IsPlaceFault (exact_size (exact_replacing r)) fault
    → IsReplaceFault r.unpacked.file r.at r.part.now result
place_why r places.TooLarge result g is large =
    subst (IsReplaceFault r.unpacked.file r.at r.part.now) (sym is)
    (exact_of r.unpacked, exactly_in r g, large)
place_why r places.OutOfMemory result g is large = rw is tt

pub replaced_all : (result : Result Replaced ReplaceFault) (r : Replacing) → IfOk result IsReplaced
    → IfOk result (λ one. one.replacing ≡ r)
    → IfOk result (λ one. Replaces r.unpacked.file r.at r.part.now (bytes_replaced one))
replaced_all (Ok one) r done same =
    let size = done.places.size in
    let fits = done.places.fits in
    let most : exact_size (exact_replacing one.replacing) ≤ most_bytes =
    omega (arith, size, fits) in
    subst (λ x. Replaces x.unpacked.file x.at x.part.now (bytes_replaced one)) same
    (replaces one.replacing done.good done.placed most)
replaced_all (Err fault) r done same = tt
