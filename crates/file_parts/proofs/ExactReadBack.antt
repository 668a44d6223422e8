-- The bytes of a file as it stands are read back as this file.
use Rattle.file_parts.proofs.AllWords.{◌≡◌, ℕ, zero, suc, ◌+◌, ◌-◌, ◌*◌, ◌^◌, ◌<◌, ◌≤◌, Bool, true, false, Some, None, List, [], ◌∷◌, ◌++◌, length, get_or, take, map, refl, sym, ap, subst, ◌∙◌, arith, inl, inr, append_assoc, length-append, All, ◌⊎◌, ◌==◌, ◌&&◌, nat_lt, is_some, slice_index, slice_range, AllZip, concat, flat_map, cases_eq, cases_lt, lt-ltb, drop_at, get_or-map, length-map, take_at, All-head, All-tail, All-nil, All-cons, u32_at, times, entry_size, DatabaseFits, Entry, EntryFits, HeaderFits, IsDatabaseName, a_record, a_resource, data_in, database_in, entry_bytes, entry_count_in, entry_data, entry_in, entry_offset, entry_with, fields_behind_name, has_resources, header_in, name_in, HasBadOffset, HasNoFault, IsBadInfo, IsOutside, block_size, entries_end, offsets_in, length-entries, length-fields, filler_in, first_start, IsWritableEntry, IsHeaded, ExactFile, HasValuesOf, IsExactly, entries_placed, exact_block, exact_blocks, exact_bytes, exact_offset, exact_placed, exact_size, exact_start, is_misplaced, offset_among, Blob}
use Rattle.pdb_format.proofs.FaultLaws.{HasGoodHead, no_fault}
use Rattle.file_parts.proofs.ExactBlocks.{first_begins}
use Rattle.file_parts.proofs.ExactBlocksBack.{AreLaid, blocks_back, first_is, offset_low, offset_most, offset_none, sorted, starts_all, starts_rise}
use Rattle.file_parts.proofs.ExactHeadBack.{AreAfter, back, headed}
use Rattle.file_parts.proofs.ExactInside.{inside_some}
use Rattle.file_parts.proofs.ExactOffsets.{length-placed, placed_at}
use Rattle.file_parts.proofs.ExactPlaces.{blocks_of}
use Rattle.file_parts.proofs.ExactRanks.{true_false}

-- whether the entries are resources
abbrev is_of_resources : ExactFile → Bool
is_of_resources exact = has_resources exact.database.header.attributes

-- The values fit their fields, and the file is short enough for its offsets. Each block has its
-- rank once in the order, and none is misplaced.
pub record IsSound (exact : ExactFile) : Type 0 where
  pub name : IsDatabaseName exact.database.header.name
  pub header : HeaderFits exact.database.header
  pub entries : All (IsWritableEntry (is_of_resources exact)) exact.database.entries
  pub few : length exact.database.entries < 2 ^ 16
  pub after : AreAfter exact.database.header.name exact.after_name
  pub once : (q : ℕ) → times q exact.order ≤ 1
  pub there : (q : ℕ) → 0 < times q exact.order → is_some (exact_block exact q) ≡ true
  pub all : (q : ℕ) → is_some (exact_block exact q) ≡ true → 0 < times q exact.order
  pub placed : (index : ℕ) → is_misplaced exact index ≡ false
  pub size : exact_size exact < 2 ^ 32

-- ---- entries with offsets

values_zip : (place : ℕ → ℕ) (rank : ℕ) (es : List (Entry Blob))
    → AllZip HasValuesOf (entries_placed place rank es) es
values_zip place rank [] = tt
values_zip place rank (a_record a id block ∷ es) = ((refl, refl), values_zip place (rank + 1) es)
values_zip place rank (a_resource kind id block ∷ es) =
    ((refl, refl), values_zip place (rank + 1) es)

entries_fit : (r : Bool) (place : ℕ → ℕ) (rank : ℕ) (es : List (Entry Blob))
    → ((k : ℕ) → place k < 2 ^ 32) → All (IsWritableEntry r) es
    → All (EntryFits r) (entries_placed place rank es)
entries_fit r place rank [] small all = All-nil (EntryFits r)
entries_fit false place rank (a_record a id block ∷ es) small all =
    let one = All-head (IsWritableEntry false) (a_record a id block) es all in
    All-cons (EntryFits false) (a_record a id (place rank)) (entries_placed place (rank + 1) es)
    (one.0, one.1, small rank) (entries_fit false place (rank + 1) es small
    (All-tail (IsWritableEntry false) (a_record a id block) es all))
entries_fit true place rank (a_record a id block ∷ es) small all =
    absurd (All-head (IsWritableEntry true) (a_record a id block) es all)
entries_fit false place rank (a_resource kind id block ∷ es) small all =
    absurd (All-head (IsWritableEntry false) (a_resource kind id block) es all)
entries_fit true place rank (a_resource kind id block ∷ es) small all =
    let one = All-head (IsWritableEntry true) (a_resource kind id block) es all in
    All-cons (EntryFits true) (a_resource kind id (place rank)) (entries_placed place (rank + 1) es)
    (one.0, one.1, small rank) (entries_fit true place (rank + 1) es small
    (All-tail (IsWritableEntry true) (a_resource kind id block) es all))

offset_of : (place : ℕ → ℕ) (rank k : ℕ) (es : List (Entry Blob)) → k < length es
    → get_or (map entry_data (entries_placed place rank es)) k 0 ≡ place (rank + k)
offset_of place rank k [] inside = absurd (omega arith)
offset_of place rank zero (a_record a id block ∷ es) inside =
    (let here : rank ≡ rank + 0 = omega arith in ap place here)
offset_of place rank zero (a_resource kind id block ∷ es) inside =
    (let here : rank ≡ rank + 0 = omega arith in ap place here)
offset_of place rank (suc k) (e ∷ es) inside =
    let next : rank + 1 + k ≡ rank + suc k = omega arith in
    offset_of place (rank + 1) k es (omega arith) ∙ ap place next

-- no offset of an entry is bad
good_place : (r : Bool) (file : List ℕ) (at : ℕ) (e : Entry Blob) → IsWritableEntry r e
    → (entry_data e ≡ None → at ≡ 0) → (is_some (entry_data e) ≡ true → IsOutside file at → ⊥)
    → HasBadOffset file (entry_with {Data = Blob} (λ _. at) e) → ⊥
good_place false file at (a_record a id None) writable none some bad = elim (bad.0) [
  | inl there ↦ there (none refl)
  | inr alive ↦ true_false (sym (writable.2 refl) ∙ alive)
]
good_place true file at (a_record a id None) writable none some bad = absurd writable
good_place r file at (a_record a id (Some bytes)) writable none some bad = some refl bad.1
good_place false file at (a_resource kind id None) writable none some bad = absurd writable
good_place true file at (a_resource kind id None) writable none some bad = absurd (writable.2 refl)
good_place r file at (a_resource kind id (Some bytes)) writable none some bad = some refl bad

-- ---- parts of the file

regroup : (a b c d rest : List ℕ) → a ++ (b ++ (c ++ (d ++ rest))) ≡ (a ++ (b ++ (c ++ d))) ++ rest
regroup a b c d rest = sym (append_assoc a (b ++ (c ++ d)) rest ∙ ap (λ xs. a ++ xs)
    (append_assoc b (c ++ d) rest ∙ ap (λ xs. b ++ xs) (append_assoc c d rest)))

cut_out : (front bytes rest : List ℕ) (at end : ℕ) → at ≡ length front
    → end ≡ length front + length bytes → slice_range (front ++ (bytes ++ rest)) at end ≡ bytes
cut_out front bytes rest at end is ends =
    let size : end - at ≡ length bytes = omega arith in
    cc (drop_at front (bytes ++ rest) at (sym is), take_at bytes rest (length bytes) refl)

at_least_header : (r : Bool) (n : ℕ) → 78 ≤ entry_offset r n
at_least_header false n = omega arith
at_least_header true n = omega arith

not_truncated : (file : List ℕ) → 78 ≤ length file → entries_end file ≤ length file
    → (length file < 78) ⊎ (length file < entries_end file) → ⊥
not_truncated file header ends (inl less) = omega arith
not_truncated file header ends (inr less) = omega arith

not_outside : (file : List ℕ) (at : ℕ) → entries_end file ≤ at → at ≤ length file
    → IsOutside file at → ⊥
not_outside file at low high (inl less) = omega arith
not_outside file at low high (inr more) = omega arith

not_empty : (name other : List ℕ) → 0 < length name → other ≡ name → other ≡ [] → ⊥
not_empty name other some e none = let zero_long : length name ≡ 0 = ap length (sym e ∙ none) in
    omega arith

data_of : (e : Entry Blob) (es : List (Entry Blob)) (k : ℕ) → k < length es
    → get_or (map entry_data es) k None ≡ entry_data (get_or es k e)
data_of e es k inside = get_or-map (entry_data {Data = Blob}) es k e None inside

empty_entry : Entry Blob
empty_entry = a_record 0 0 None

and_three : (a b c : Bool) → a && b && c ≡ false → a ≡ true → b ≡ true → c ≡ false
and_three true true c is one two = is
and_three true false c is one two = absurd (true_false (sym two))
and_three false b c is one two = absurd (true_false (sym one))

-- ---- a file as it stands

module _ (exact : ExactFile) (sound : IsSound exact) where
  -- the bytes up to the end of the entries
  head : List ℕ
  head = exact.database.header.name
      ++ (exact.after_name ++ (concat (fields_behind_name (exact_placed exact))
      ++ flat_map entry_bytes (exact_placed exact).entries))

  size_is : exact_size exact
      ≡ exact_start exact + length (blocks_of (exact_block exact) exact.order)
  unfolding exact_blocks
  size_is = refl

  offset_small : (rank : ℕ) → exact_offset exact rank < 2 ^ 32
  offset_small rank =
      omega (arith, offset_most (exact_block exact) (exact_start exact) exact.order rank, size_is)

  count_is : length (exact_placed exact).entries ≡ length exact.database.entries
  count_is = length-placed (exact_offset exact) 2 exact.database.entries

  fits : DatabaseFits (exact_placed exact)
  fits =
      let count = count_is in
      record {
        name = sound.name;
        header = sound.header;
        app_info = offset_small 0;
        sort_info = offset_small 1;
        entries = entries_fit (is_of_resources exact)
            (exact_offset exact) 2 exact.database.entries offset_small sound.entries;
        entry_count = omega arith;
      }

  head_long : length head ≡ entry_offset (is_of_resources exact) (length exact.database.entries)
  unfolding head
  head_long =
      let r : Bool = is_of_resources exact in
      let es : List (Entry ℕ) = (exact_placed exact).entries in
      let fields : List ℕ = concat (fields_behind_name (exact_placed exact)) in
      let bytes : List ℕ = flat_map entry_bytes es in
      let one = length-append exact.database.header.name (exact.after_name ++ (fields ++ bytes)) in
      let two = length-append exact.after_name (fields ++ bytes) in
      let three = length-append fields bytes in
      let fixed = length-fields (exact_placed exact) in
      omega (arith, length-entries r es fits.entries, ap (λ n. entry_size r * n) count_is)

  front : List ℕ
  front = head ++ exact.filler

  front_long : length front ≡ exact_start exact
  unfolding front
  front_long = omega (arith, head_long, length-append head exact.filler)

  file_is : exact_bytes exact ≡ head ++ (exact.filler ++ blocks_of (exact_block exact) exact.order)
  unfolding exact_bytes exact_blocks head
  file_is = regroup exact.database.header.name exact.after_name
      (concat (fields_behind_name (exact_placed exact))) (flat_map entry_bytes
      (exact_placed exact).entries) (exact.filler ++ blocks_of (exact_block exact) exact.order)

  front_is : exact_bytes exact ≡ front ++ blocks_of (exact_block exact) exact.order
  unfolding front
  front_is =
      file_is ∙ sym (append_assoc head exact.filler (blocks_of (exact_block exact) exact.order))

  field_is : exact_bytes exact ≡ (exact.database.header.name ++ exact.after_name)
      ++ back (exact_placed exact) (exact.filler ++ exact_blocks exact)
  unfolding exact_bytes
  field_is = sym (append_assoc exact.database.header.name exact.after_name
      (back (exact_placed exact) (exact.filler ++ exact_blocks exact)))

  is_headed : IsHeaded (exact_bytes exact) (exact_placed exact)
  is_headed = subst (λ file. IsHeaded file (exact_placed exact)) (sym field_is) (headed
      (exact_placed exact) exact.after_name (exact.filler ++ exact_blocks exact) fits sound.after)

  pub file_long : length (exact_bytes exact) ≡ exact_size exact
  file_long =
      let is =
      ap length front_is ∙ length-append front (blocks_of (exact_block exact) exact.order) in
      omega (arith, front_long, size_is)

  end_is : entries_end (exact_bytes exact) ≡ length head
  end_is = cc (is_headed.resources, is_headed.count, count_is, head_long)

  offsets_are : offsets_in (exact_bytes exact) ≡ exact_offset exact 0 ∷ exact_offset exact 1
      ∷ map entry_data (entries_placed (exact_offset exact) 2 exact.database.entries)
  offsets_are = ap (λ x. data_in x) is_headed.is

  count_all : length (offsets_in (exact_bytes exact)) ≡ length (data_in exact.database)
  count_all =
      let is = ap length offsets_are in
      let one = length-map (entries_placed (exact_offset exact) 2 exact.database.entries)
      (entry_data {Data = ℕ}) in
      omega (arith, length-map exact.database.entries (entry_data {Data = Blob}), count_is)

  blocks_long : length (data_in exact.database) ≡ 2 + length exact.database.entries
  blocks_long = omega (arith, length-map exact.database.entries (entry_data {Data = Blob}))

  offset_read : (rank : ℕ) → rank < length (data_in exact.database)
      → get_or (offsets_in (exact_bytes exact)) rank 0 ≡ exact_offset exact rank
  offset_read zero inside = ap (λ xs. get_or xs 0 0) offsets_are
  offset_read (suc zero) inside = ap (λ xs. get_or xs 1 0) offsets_are
  offset_read (suc (suc k)) inside =
      let long = blocks_long in
      let next : 2 + k ≡ suc (suc k) = omega arith in
      cc (offsets_are, offset_of (exact_offset exact) 2 k exact.database.entries (omega arith))

  rises : (i : ℕ) → suc i < length exact.order
      → block_size (exact_block exact (get_or exact.order i 0)) ≡ 0
      → get_or exact.order i 0 ≤ get_or exact.order (suc i) 0
  rises i inside empty = elim (cases_lt (get_or exact.order (suc i) 0) (get_or exact.order i 0)) [
    | inl lower ↦ (let next : i + 1 ≡ suc i = omega arith in
        let here : nat_lt (i + 1) (length exact.order) ≡ true =
        lt-ltb (i + 1) (length exact.order) (omega arith) in
        let falls : nat_lt (slice_index exact.order (i + 1)) (slice_index exact.order i) ≡ true =
        cc (lt-ltb (slice_index exact.order (suc i)) (slice_index exact.order i) lower) in
        let some = and_three (nat_lt (i + 1) (length exact.order))
        (nat_lt (slice_index exact.order (i + 1)) (slice_index exact.order i))
        (block_size (exact_block exact (slice_index exact.order i)) == 0)
        (sound.placed i) here falls in
        let none : (block_size (exact_block exact (slice_index exact.order i)) == 0) ≡ true =
        ap (λ n. n == 0) empty in
        absurd (true_false (sym none ∙ some)))
    | inr most ↦ most
  ]

  laid : AreLaid (exact_bytes exact) front (data_in exact.database) exact.order
  laid =
      let long = front_long in
      let blocks = blocks_long in
      let few = sound.few in
      let least = at_least_header (is_of_resources exact) (length exact.database.entries) in
      record {
        is = front_is;
        some = omega arith;
        few = omega arith;
        long = count_all;
        offset = λ rank inside. offset_read rank inside
            ∙ ap (λ at. offset_among (exact_block exact) at exact.order rank) (sym front_long);
        once = sound.once;
        inside = λ q there. inside_some (data_in exact.database) q (sound.there q there);
        there = sound.there;
        all = sound.all;
        rises = rises;
      }

  -- ---- it has no fault

  some_inside : (rank : ℕ) → is_some (exact_block exact rank) ≡ true
      → IsOutside (exact_bytes exact) (exact_offset exact rank) → ⊥
  some_inside rank there =
      let low =
      offset_low (exact_block exact) (exact_start exact) exact.order rank (sound.all rank there) in
      let most = offset_most (exact_block exact) (exact_start exact) exact.order rank in
      let size = size_is in
      let long = file_long in
      let end = end_is in
      let first = head_long in
      not_outside (exact_bytes exact) (exact_offset exact rank) (omega arith) (omega arith)

  none_zero : (rank : ℕ) → is_some (exact_block exact rank) ≡ false → exact_offset exact rank ≡ 0
  none_zero rank none = offset_none (exact_block exact) (exact_start exact) exact.order rank
      (elim (cases_eq (times rank exact.order) 0) [
        | inl is ↦ is
        | inr some ↦ absurd (true_false (sym (sound.there rank (omega arith)) ∙ none))
      ])

  good_info : (rank at : ℕ) → at ≡ exact_offset exact rank → IsBadInfo (exact_bytes exact) at → ⊥
  good_info rank at is bad =
      let there : is_some (exact_block exact rank) ≡ true =
      by_some (is_some (exact_block exact rank)) refl in
      some_inside rank there (subst (IsOutside (exact_bytes exact)) is bad.1) where
        by_some : (v : Bool) → is_some (exact_block exact rank) ≡ v
            → is_some (exact_block exact rank) ≡ true
        by_some true e = e
        by_some false e = absurd (bad.0 (is ∙ none_zero rank e))

  app_is : u32_at (exact_bytes exact) 52 ≡ exact_offset exact 0
  unfolding database_in
  app_is = ap (λ x. x.app_info) is_headed.is

  sort_is : u32_at (exact_bytes exact) 56 ≡ exact_offset exact 1
  unfolding database_in
  sort_is = ap (λ x. x.sort_info) is_headed.is

  header_is : header_in (exact_bytes exact) ≡ exact.database.header
  unfolding database_in
  header_is = ap (λ x. x.header) is_headed.is

  name_is : name_in (exact_bytes exact) ≡ exact.database.header.name
  unfolding header_in
  name_is = ap (λ h. h.name) header_is

  entries_are : (database_in (exact_bytes exact)).entries
      ≡ entries_placed (exact_offset exact) 2 exact.database.entries
  entries_are = ap (λ x. x.entries) is_headed.is

  good_head : HasGoodHead (exact_bytes exact)
  good_head =
      let long = file_long in
      let end = end_is in
      let first = head_long in
      let least = at_least_header (is_of_resources exact) (length exact.database.entries) in
      let start = front_long in
      record {
        whole = not_truncated (exact_bytes exact) (omega arith) (omega arith);
        ends = λ some. some is_headed.next_list;
        named = not_empty exact.database.header.name
            (name_in (exact_bytes exact)) sound.name.some name_is;
        app_info = good_info 0 (u32_at (exact_bytes exact) 52) app_is;
        sort_info = good_info 1 (u32_at (exact_bytes exact) 56) sort_is;
      }

  good_entry : (index : ℕ) → index < entry_count_in (exact_bytes exact)
      → HasBadOffset (exact_bytes exact) (entry_in (exact_bytes exact) index) → ⊥
  good_entry index below bad =
      let file : List ℕ = exact_bytes exact in
      let es : List (Entry Blob) = exact.database.entries in
      let count = is_headed.count ∙ count_is in
      let placed = count_is in
      let e : Entry Blob = get_or es index empty_entry in
      let at : ℕ = exact_offset exact (2 + index) in
      let is : entry_in file index ≡ entry_with (λ _. at) e =
      is_headed.entry index (a_record 0 0 0) (omega arith)
      ∙ placed_at (exact_offset exact) 2 index es empty_entry (a_record 0 0 0) (omega arith) in
      let next : suc (suc index) ≡ 2 + index = omega arith in
      let block : exact_block exact (2 + index) ≡ entry_data e =
      cc (data_of empty_entry es index (omega arith)) in
      good_place (is_of_resources exact) file at e (sound.entries index empty_entry (omega arith))
      (λ none. none_zero (2 + index) (ap is_some (block ∙ none)))
      (λ some. some_inside (2 + index) (ap is_some block ∙ some)) (subst (HasBadOffset file) is bad)

  good : HasNoFault (exact_bytes exact)
  good = no_fault (exact_bytes exact) good_head (λ index below bad. good_entry index below bad.1)

  -- ---- it is read back

  filler_back : exact.filler ≡ filler_in (exact_bytes exact)
  unfolding front
  filler_back =
      let file : List ℕ = exact_bytes exact in
      let blocks : List ℕ = blocks_of (exact_block exact) exact.order in
      let first : first_start file ≡ length front = sym (first_begins file exact.order
      (sorted file front (data_in exact.database) exact.order laid))
      ∙ first_is file front (data_in exact.database) exact.order laid in
      sym (ap (λ xs. slice_range xs (entries_end file) (first_start file)) file_is
      ∙ cut_out head exact.filler blocks (entries_end file) (first_start file) end_is
      (first ∙ length-append head exact.filler))

  pub reads_back : IsExactly (exact_bytes exact) exact
  reads_back = record {
    good = good;
    header = sym header_is;
    name_field = sym (ap (take 32) field_is ∙ take_at (exact.database.header.name
        ++ exact.after_name) (back (exact_placed exact) (exact.filler ++ exact_blocks exact)) 32
        (length-append exact.database.header.name exact.after_name ∙ sound.after.room));
    entries = subst (λ es. AllZip HasValuesOf es exact.database.entries) (sym entries_are)
        (values_zip (exact_offset exact) 2 exact.database.entries);
    blocks = blocks_back (exact_bytes exact) front (data_in exact.database) exact.order laid;
    filler = filler_back;
    order = record {
      all = starts_all (exact_bytes exact) front (data_in exact.database) exact.order laid;
      rising = starts_rise (exact_bytes exact) front (data_in exact.database) exact.order laid;
    };
  }
