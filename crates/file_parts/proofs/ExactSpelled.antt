-- A file without fault is the bytes of what it is exactly.
use Rattle.file_parts.proofs.AllWords.{◌≡◌, ℕ, suc, ◌+◌, ◌*◌, ◌-◌, ◌^◌, ◌<◌, ◌≤◌, false, None, List, [], ◌∷◌, ◌++◌, length, get_or, take, drop, map, refl, sym, ap, ◌∙◌, arith, inl, inr, append_assoc, ◌&&◌, ◌==◌, nat_lt, filter, slice_index, AllZip, concat, flat_map, and_parts, cases_eq, ltb-true, length-drop, length-take, drop-drop, take-append-drop, big_from-lt, u16_at, u32_at, AreBytes, entry_size, Database, DatabaseHeader, Entry, a_record, a_resource, database_in, entry_bytes, entry_count_in, entry_data, entry_offset, fields_behind_name, has_resources, header_in, resources_in, HasNoFault, blocks_in, block_bytes, block_size, entries_end, offsets_in, entries_upto, fields_back, length-entries_in, first_start, not_truncated, offset_count, AreSorted, zip_long, ExactFile, HasValuesOf, IsExactly, entries_placed, exact_block, exact_blocks, exact_bytes, exact_offset, exact_placed, exact_size, exact_start, is_misplaced, Blob, cases_Bool}
use Rattle.heap_model.specs.declared.file_fault.FileFault.TheVariants.{Truncated}
use Rattle.pdb_format.proofs.LeastOffsets.{first_after, least_most}
use Rattle.file_parts.proofs.ExactBlocks.{at_first, at_next, blocks_rest, first_begins, join, none_misplaced, offset_back, ranks_sorted, starts_of, zero_of}

-- ---- the entries, as they were read

entries_back : (bytes : List ℕ) → AreBytes bytes → entries_end bytes ≤ length bytes
    → flat_map entry_bytes (database_in bytes).entries
    ≡ take (entry_size (resources_in bytes) * entry_count_in bytes) (drop 78 bytes)
unfolding database_in
entries_back bytes b inside =
    entries_upto (resources_in bytes) bytes (entry_count_in bytes) b inside

entries_counted : (bytes : List ℕ) → length (database_in bytes).entries ≡ entry_count_in bytes
unfolding database_in
entries_counted bytes = length-entries_in bytes

-- ---- the database with its offsets is that of the file

placed_back : (place : ℕ → ℕ) (rank : ℕ) (xs : List (Entry ℕ)) (ys : List (Entry Blob))
    → AllZip HasValuesOf xs ys
    → ((k : ℕ) → k < length xs → place (rank + k) ≡ get_or (map entry_data xs) k 0)
    → entries_placed place rank ys ≡ xs
placed_back place rank [] [] all each = refl
placed_back place rank [] (y ∷ ys) all each = absurd all
placed_back place rank (x ∷ xs) [] all each = absurd all
placed_back place rank (a_record a id at ∷ xs) (a_record b other_id block ∷ ys) all each =
    let first = at_first place rank at (each 0 (omega arith)) in
    let second = placed_back place (rank + 1) xs ys all.1
    (λ k less. at_next place rank k _ (each (suc k) (omega arith))) in
    cc (all.0.0, all.0.1)
placed_back place rank (a_resource kind id at ∷ xs)
    (a_resource other_kind other_id block ∷ ys) all each =
    let first = at_first place rank at (each 0 (omega arith)) in
    let second = placed_back place (rank + 1) xs ys all.1
    (λ k less. at_next place rank k _ (each (suc k) (omega arith))) in
    cc (all.0.0, all.0.1)
placed_back place rank (a_record a id at ∷ xs) (a_resource kind other_id block ∷ ys) all each =
    absurd all.0
placed_back place rank (a_resource kind id at ∷ xs) (a_record a other_id block ∷ ys) all each =
    absurd all.0

few_ranks : (file : List ℕ) → AreBytes file → length (offsets_in file) ≤ 2 ^ 32
unfolding u16_at
few_ranks file b = omega (arith, offset_count file, big_from-lt 76 2 file b)

-- what is known of a file that is exactly this one
entry_count : (file : List ℕ) (exact : ExactFile) → IsExactly file exact
    → length exact.database.entries ≡ entry_count_in file
entry_count file exact is = sym (zip_long HasValuesOf
    (database_in file).entries exact.database.entries is.entries) ∙ entries_counted file

resources_are : (file : List ℕ) (exact : ExactFile) → IsExactly file exact
    → has_resources exact.database.header.attributes ≡ resources_in file
unfolding header_in
resources_are file exact is = ap (λ h. has_resources h.attributes) is.header

pub entries_end_is : (file : List ℕ) (exact : ExactFile) → IsExactly file exact
    → entry_offset (has_resources exact.database.header.attributes) (length exact.database.entries)
    ≡ entries_end file
entries_end_is file exact is = cc (resources_are file exact is, entry_count file exact is)

pub start_is : (file : List ℕ) (exact : ExactFile) → IsExactly file exact
    → exact_start exact ≡ first_start file
start_is file exact is =
    let end = entries_end_is file exact is in
    let low = first_after file is.good in
    let most = least_most (length file) (filter (nat_lt 0) (offsets_in file)) in
    let filler = ap length is.filler in
    let rest = length-drop (entries_end file) file in
    omega (arith, length-take (first_start file - entries_end file) (drop (entries_end file) file))

blocks_same : (file : List ℕ) (exact : ExactFile) → IsExactly file exact
    → ◌≡◌ {A = ℕ → Blob} (exact_block exact) (λ rank. get_or (blocks_in file) rank None)
blocks_same file exact is = ap (λ blocks. λ (rank : ℕ). get_or blocks rank None) is.blocks

taken_joined : (file : List ℕ) (at n : ℕ)
    → take n (drop at file) ++ drop (at + n) file ≡ drop at file
taken_joined file at n = cc (drop-drop n at file, take-append-drop n (drop at file))

no_list : (file : List ℕ) → HasNoFault file → u32_at file 72 ≡ 0
no_list file good = elim (cases_eq (u32_at file 72) 0) [
  | inl is ↦ is
  | inr some ↦ absurd (good 1 Truncated (omega arith) some)
]

whole : DatabaseHeader → ℕ → ℕ → List (Entry ℕ) → Database ℕ
whole header app sort entries =
    record { header = header; app_info = app; sort_info = sort; entries = entries }

same_whole : (h i : DatabaseHeader) (a b c d : ℕ) (xs ys : List (Entry ℕ)) → h ≡ i → a ≡ b → c ≡ d
    → xs ≡ ys → whole h a c xs ≡ whole i b d ys
same_whole h i a b c d xs ys p q r s = cc

module _ (file : List ℕ) (exact : ExactFile) (b : AreBytes file) (is : IsExactly file exact) where
  pub order_sorted : AreSorted (offsets_in file) (length file)
      (starts_of (offsets_in file) exact.order)
  order_sorted = ranks_sorted file exact.order is.good (few_ranks file b) is.order

  offset_is : (rank : ℕ) → rank < length (offsets_in file)
      → exact_offset exact rank ≡ get_or (offsets_in file) rank 0
  offset_is rank inside =
      let sorted = order_sorted in
      let first = blocks_same file exact is in
      let second = start_is file exact is in
      cc (first_begins file exact.order sorted, offset_back file exact.order rank sorted inside)

  pub placed_is : exact_placed exact ≡ database_in file
  unfolding database_in whole
  placed_is =
      let count = offset_count file in
      let long = length-entries_in file in
      let entries = placed_back (exact_offset exact) 2 (database_in file).entries
      exact.database.entries is.entries (λ k less. (let next : 2 + k ≡ suc (suc k) = omega arith in
      offset_is (2 + k) (omega arith) ∙ ap (λ n. get_or (offsets_in file) n 0) next)) in
      same_whole _ _ _ _ _ _ _ _ is.header (offset_is 0 (omega arith))
      (offset_is 1 (omega arith)) entries

  blocks_are : exact_blocks exact ≡ drop (first_start file) file
  unfolding exact_blocks
  blocks_are = ap (λ block. flat_map (λ rank. block_bytes (block rank)) exact.order)
      (blocks_same file exact is) ∙ blocks_rest file exact.order order_sorted

  pub bytes_are : exact_bytes exact ≡ file
  unfolding exact_bytes database_in u16_at
  bytes_are =
      let inside = not_truncated file is.good in
      let header = inside.0 in
      let end = inside.1 in
      let after : List ℕ = exact.after_name in
      let fields : List ℕ = concat (fields_behind_name (exact_placed exact)) in
      let entries : List ℕ = flat_map entry_bytes (exact_placed exact).entries in
      let tail : List ℕ = exact.filler ++ exact_blocks exact in
      let size : ℕ = entry_size (resources_in file) * entry_count_in file in
      let tail_is : tail ≡ drop (78 + size) file = cc (
        is.filler,
        blocks_are,
        join file (entries_end file) (first_start file) (first_after file is.good),
      ) in
      let first = placed_is in
      let entries_are : entries ≡ take size (drop 78 file) = cc (entries_back file b end) in
      let second = placed_is in
      let third = fields_back (database_in file) file b header refl (entries_counted file)
      (no_list file is.good) in
      let fields_are : fields ≡ take 46 (drop 32 file) = cc in
      let fourth = append_assoc exact.database.header.name after (fields ++ (entries ++ tail)) in
      let fifth = taken_joined file 78 size in
      cc (is.name_field, taken_joined file 32 46, take-append-drop 32 file)

  pub size_is : exact_size exact ≡ length file
  size_is =
      let start = start_is file exact is in
      let blocks = ap length blocks_are in
      let rest = length-drop (first_start file) file in
      let most = least_most (length file) (filter (nat_lt 0) (offsets_in file)) in
      omega (arith, first_after file is.good)

  pub placed_well : (index : ℕ) → is_misplaced exact index ≡ false
  placed_well index = elim (cases_Bool (is_misplaced exact index)) [
    | inl e ↦
        let ranks : List ℕ = exact.order in
        let parts = and_parts (nat_lt (index + 1) (length ranks)
        && nat_lt (slice_index ranks (index + 1)) (slice_index ranks index))
        (block_size (exact_block exact (slice_index ranks index)) == 0) e in
        let first = and_parts (nat_lt (index + 1) (length ranks))
        (nat_lt (slice_index ranks (index + 1)) (slice_index ranks index)) parts.0 in
        let next = ltb-true (index + 1) (length ranks) first.0 in
        let lower = ltb-true (slice_index ranks (index + 1)) (slice_index ranks index) first.1 in
        let none = zero_of (block_size (exact_block exact (slice_index ranks index))) parts.1 in
        let same =
        ap (λ block. block_size (block (slice_index ranks index))) (blocks_same file exact is) in
        let rises = none_misplaced file ranks index order_sorted next (sym same ∙ none) in
        absurd (omega arith)
    | inr e ↦ e
  ]
