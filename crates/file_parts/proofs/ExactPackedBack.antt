-- The file that is put together from an exact folder is read back as the folder's.
use Rattle.file_parts.proofs.AllWords.{◌≡◌, ℕ, zero, suc, ◌+◌, ◌-◌, ◌<◌, ◌≤◌, Bool, true, false, Option, Some, None, List, [], length, get_or, map, refl, sym, ap, subst, ◌∙◌, arith, inl, inr, length-append, ◌⊎◌, ◌==◌, ◌&&◌, ◌||◌, nat_lt, filter, is_some, option_map, replicate, slice_index, range_with_len, and_from, and_parts, cases_eq, cases_lt, eq-eqb, eqb-true, ltb-true, get_or_past, get_or-append_right, get_or-replicate, length-map, length-replicate, times, data_in, has_resources, block_size, times-append, most_bytes, BadWord, AfterName, OrderLine, ListedExact, database_listed, entries_listed, filled, part_at, fault_in, ExactFile, IsExactly, exact_block, exact_size, is_misplaced, after_name_of, is_other, after_name_fault, is_after_name, HasExactParts, IsExactlyPacked, exact_packed, Blob, cases_Bool, passing}
use Rattle.file_parts.proofs.ExactBlocksBack.{times_in}
use Rattle.file_parts.proofs.ExactHeadBack.{AreAfter}
use Rattle.file_parts.proofs.ExactInside.{inside_some, named_some, ranks_once, times_not}
use Rattle.file_parts.proofs.ExactOrders.{none_fault}
use Rattle.file_parts.proofs.ExactRanks.{not_true}
use Rattle.file_parts.proofs.ExactReadBack.{IsSound, file_long, reads_back}
use Rattle.file_parts.proofs.PackedEntries.{all_writable, length-packed, listed_writable}
use Rattle.file_parts.proofs.PackedFiles.{block_packed, count_packed}

-- ---- the bytes after the name

either_of : (name after : List ℕ) → length name + length after ≡ 32 → (v : Bool)
    → (length after == 1) ≡ v → v || (slice_index after 0 == 0) ≡ true
    → (31 ≡ length name) ⊎ (slice_index after 0 ≡ 0)
either_of name after room true one is =
    (let long = eqb-true (length after) 1 one in inl (omega arith))
either_of name after room false one is = inr (eqb-true (slice_index after 0) 0 is)

pub after_good : (name after : List ℕ) → is_after_name name after ≡ true → AreAfter name after
after_good name after is =
    let parts = and_parts (length after + length name == 32)
    ((length after == 1) || (slice_index after 0 == 0)) is in
    let sum = eqb-true (length after + length name) 32 parts.0 in
    let room : length name + length after ≡ 32 = omega arith in
    record { room = room; ends = either_of name after room (length after == 1) refl parts.1 }

pub zeros_after : (name : List ℕ) → length name < 32
    → AreAfter name (replicate (32 - length name) 0)
zeros_after name room =
    let zeros : List ℕ = replicate (32 - length name) 0 in
    let long : length zeros ≡ 32 - length name = length-replicate (32 - length name) 0 in
    record {
      room = omega arith;
      ends = inr (get_or-replicate (32 - length name) 0 0 0 (omega arith));
    }

after_is : (name : List ℕ) (after : Option AfterName) → length name < 32
    → after_name_fault name after ≡ None
    → AreAfter name (after_name_of name (option_map (λ (one : AfterName). one.bytes) after))
after_is name None room good = zeros_after name room
after_is name (Some after) room good = elim (cases_Bool (is_after_name name after.bytes)) [
  | inl is ↦ after_good name after.bytes is
  | inr is ↦ absurd (none_fault (fault_in after.line (BadWord 2)) (rw is at good))
]

-- ---- the order of its blocks

pub some_filled : (bytes : List ℕ) (part : Blob) → is_some (filled bytes part) ≡ is_some part
some_filled bytes None = refl
some_filled bytes (Some name) = refl

-- the numbers of a range that pass a test rise
kept_above : (test : ℕ → Bool) (from n k : ℕ) → k < length (passing test from n)
    → from ≤ get_or (passing test from n) k 0
kept_above test from zero k inside = absurd (omega arith)
kept_above test from (suc n) k inside =
    by_test (test from) refl (kept_above test (from + 1) n) k inside where
      by_test : (v : Bool) → test from ≡ v → ((i : ℕ) → i < length (passing test (from + 1) n)
          → from + 1 ≤ get_or (passing test (from + 1) n) i 0) → (j : ℕ)
          → j < length (passing test from (suc n)) → from ≤ get_or (passing test from (suc n)) j 0
      by_test true is more zero less = rw is (omega arith)
      by_test true is more (suc j) less =
          let short : suc j < suc (length (passing test (from + 1) n)) = rw is at less in
          let above = more j (omega arith) in
          rw is (omega arith)
      by_test false is more j less =
          let above = more j (rw is at less) in
          rw is (omega arith)

pub kept_rises : (test : ℕ → Bool) (from n k : ℕ) → suc k < length (passing test from n)
    → get_or (passing test from n) k 0 ≤ get_or (passing test from n) (suc k) 0
kept_rises test from zero k inside = absurd (omega arith)
kept_rises test from (suc n) k inside =
    by_test (test from) refl (kept_rises test (from + 1) n) k inside where
      by_test : (v : Bool) → test from ≡ v → ((i : ℕ) → suc i < length (passing test (from + 1) n)
          → get_or (passing test (from + 1) n) i 0 ≤ get_or (passing test (from + 1) n) (suc i) 0)
          → (j : ℕ) → suc j < length (passing test from (suc n))
          → get_or (passing test from (suc n)) j 0 ≤ get_or (passing test from (suc n)) (suc j) 0
      by_test true is more zero less =
          let short : suc zero < suc (length (passing test (from + 1) n)) = rw is at less in
          let above = kept_above test (from + 1) n 0 (omega arith) in
          rw is (omega arith)
      by_test true is more (suc j) less =
          let short : suc (suc j) < suc (length (passing test (from + 1) n)) = rw is at less in
          let above = more j (omega arith) in
          rw is above
      by_test false is more j less =
          let above = more j (rw is at less) in
          rw is above

abbrev listed_blocks : ListedExact → List Blob
listed_blocks exact = data_in (database_listed exact.listed)

-- the ranks of the lines `order`, and the others
abbrev named : ListedExact → List ℕ
named exact = map (λ (line : OrderLine). line.rank) exact.lines.order.items

abbrev is_left : ListedExact → ℕ → Bool
is_left exact = is_other (listed_blocks exact) (named exact)

abbrev others : ListedExact → List ℕ
others exact = filter (is_left exact) (range_with_len 0 (length (listed_blocks exact)))

there_same : (exact : ListedExact) (parts : List (List ℕ)) (q : ℕ)
    → is_some (exact_block (exact_packed exact parts) q)
    ≡ is_some (get_or (listed_blocks exact) q None)
there_same exact parts q = elim (cases_lt q (length (listed_blocks exact))) [
  | inl less ↦ ap is_some (block_packed exact.listed parts q less)
      ∙ some_filled (part_at parts q) (get_or (listed_blocks exact) q None)
  | inr past ↦ (let count = count_packed exact.listed parts in
      cc (
        get_or_past (data_in (exact_packed exact parts).database) q None (omega arith),
        get_or_past (listed_blocks exact) q None past,
      ))
]

module _ (exact : ListedExact) (parts : List (List ℕ)) (good : HasExactParts exact parts) where
  total : (q : ℕ)
      → times q (exact_packed exact parts).order ≡ times q (named exact) + times q (others exact)
  total q = times-append q (named exact) (others exact)

  left_there : (q : ℕ) → 0 < times q (others exact) → (v : Bool) → is_left exact q ≡ v
      → is_some (get_or (listed_blocks exact) q None) ≡ true
  left_there q some true is =
      (and_parts (is_some (get_or (listed_blocks exact) q None)) (times q (named exact) == 0) is).0
  left_there q some false is = absurd (omega
      (arith, times_not (is_left exact) q (range_with_len 0 (length (listed_blocks exact))) is))

  listed_there : (q : ℕ) → 0 < times q (exact_packed exact parts).order
      → is_some (get_or (listed_blocks exact) q None) ≡ true
  listed_there q some =
      let all = total q in
      elim (cases_eq (times q (named exact)) 0) [
        | inl none ↦ left_there q (omega arith) (is_left exact q) refl
        | inr line ↦ named_some (listed_blocks exact) [] exact.lines.order.items good.good.order q
            (omega arith)
      ]

  there : (q : ℕ) → 0 < times q (exact_packed exact parts).order
      → is_some (exact_block (exact_packed exact parts) q) ≡ true
  there q some = there_same exact parts q ∙ listed_there q some

  left_all : (q : ℕ) → is_some (get_or (listed_blocks exact) q None) ≡ true
      → times q (named exact) ≡ 0 → 0 < times q (others exact)
  left_all q some none =
      let zero_times : (times q (named exact) == 0) ≡ true =
      eq-eqb (times q (named exact)) 0 none in
      let passes : is_left exact q ≡ true = and_from (is_some (get_or (listed_blocks exact) q None))
      (times q (named exact) == 0) some zero_times in
      let inside = inside_some (listed_blocks exact) q some in
      times_in (is_left exact) q 0 (length (listed_blocks exact)) (omega arith) (omega arith) passes

  all : (q : ℕ) → is_some (exact_block (exact_packed exact parts) q) ≡ true
      → 0 < times q (exact_packed exact parts).order
  all q some =
      let sum = total q in
      let is : is_some (get_or (listed_blocks exact) q None) ≡ true =
      sym (there_same exact parts q) ∙ some in
      elim (cases_eq (times q (named exact)) 0) [
        | inl none ↦ omega (arith, left_all q is none)
        | inr line ↦ omega arith
      ]

  -- after the lines `order` the ranks rise
  rises_later : (index : ℕ) → length exact.lines.order.items ≤ index
      → index + 1 < length (exact_packed exact parts).order → slice_index (exact_packed exact
      parts).order index ≤ slice_index (exact_packed exact parts).order (index + 1)
  rises_later index past inside =
      let long = length-map exact.lines.order.items (λ (line : OrderLine). line.rank) in
      let both = length-append (named exact) (others exact) in
      let k : ℕ = index - length (named exact) in
      let next : index + 1 - length (named exact) ≡ suc k = omega arith in
      let one = get_or-append_right (named exact) (others exact) (length (named exact)) index 0 refl
      (omega arith) in
      let two = get_or-append_right (named exact) (others exact) (length (named exact))
      (index + 1) 0 refl (omega arith) ∙ ap (λ j. get_or (others exact) j 0) next in
      omega (arith, kept_rises (is_left exact) 0 (length (listed_blocks exact)) k (omega arith))

  none_misplaced : (bytes : List ℕ) → IsExactlyPacked exact parts bytes → (index : ℕ)
      → is_misplaced (exact_packed exact parts) index ≡ false
  none_misplaced bytes packed index = elim (cases_lt index (length exact.lines.order.items)) [
    | inl less ↦ packed.placed index less
    | inr past ↦ not_true (is_misplaced (exact_packed exact parts) index) (λ is.
        (let file : ExactFile = exact_packed exact parts in
        let here : Bool = nat_lt (index + 1) (length file.order) in
        let falls : Bool =
        nat_lt (slice_index file.order (index + 1)) (slice_index file.order index) in
        let empty : Bool = block_size (exact_block file (slice_index file.order index)) == 0 in
        let first = and_parts (here && falls) empty is in
        let second = and_parts here falls first.0 in
        let inside = ltb-true (index + 1) (length file.order) second.0 in
        let lower =
        ltb-true (slice_index file.order (index + 1)) (slice_index file.order index) second.1 in
        omega (arith, rises_later index past inside)))
  ]

  sound : (bytes : List ℕ) → IsExactlyPacked exact parts bytes
      → exact_size (exact_packed exact parts) ≤ most_bytes → IsSound (exact_packed exact parts)
  sound bytes packed size =
      let listed = good.good.good in
      let r : Bool = has_resources exact.listed.header.attributes in
      let long = length-packed exact.listed.entries.items parts in
      let few = listed.few in
      record {
        name = listed.name;
        header = listed.header;
        entries = all_writable r parts 2 (entries_listed exact.listed.entries.items)
            (listed_writable r exact.listed.entries.items listed.good);
        few = omega arith;
        after = after_is exact.listed.header.name exact.lines.after_name listed.name.room
            good.good.after_name;
        once = ranks_once (listed_blocks exact) exact.lines.order.items good.good.order;
        there = there;
        all = all;
        placed = none_misplaced bytes packed;
        size = omega arith;
      }

pub packed_back : (exact : ListedExact) (parts : List (List ℕ)) (bytes : List ℕ)
    → HasExactParts exact parts → IsExactlyPacked exact parts bytes
    → exact_size (exact_packed exact parts) ≤ most_bytes
    → IsExactly bytes (exact_packed exact parts)
packed_back exact parts bytes good packed size =
    subst (λ file. IsExactly file (exact_packed exact parts)) (sym packed.file)
    (reads_back (exact_packed exact parts) (sound exact parts good bytes packed size))

-- its size
pub packed_long : (exact : ListedExact) (parts : List (List ℕ)) (bytes : List ℕ)
    → HasExactParts exact parts → IsExactlyPacked exact parts bytes
    → exact_size (exact_packed exact parts) ≤ most_bytes
    → exact_size (exact_packed exact parts) ≡ length bytes
packed_long exact parts bytes good packed size = sym (ap length packed.file
    ∙ file_long (exact_packed exact parts) (sound exact parts good bytes packed size))
