-- A file that keeps some things, as it is laid out and written.
use Rattle.file_parts.proofs.AllWords.{◌≡◌, ℕ, ◌+◌, ◌-◌, ◌<◌, ◌≤◌, ◌++◌, Bool, true, false, cond, Option, None, List, [], length, get_or, map, drop, inl, inr, refl, sym, ap, subst, ◌∙◌, arith, ◌==◌, ◌⊎◌, if◌then◌else◌, IsFalse, IsTrue, is_some, range_with_len, IsPermutation, IsNonDecreasing, and_from, and_parts, get_or-map, length-drop, length-map, length-take, fill_by_all, get_or-map-range_with_len, length-map-range_with_len, sum_by-IsPermutation, AreBytes, u24_at, times, seed_in, Database, DatabaseHeader, Entry, a_record, a_resource, data_in, database_in, entry_at, entry_count_in, entry_offset, entry_with, has_resources, header_in, name_field, name_in, resources_in, unique_ids, blocks_in, entries_end, idle, idle_attributes, idle_entry, contained-times, times-distinct, times-some, filler_in, first_start, written_filler, database_read, entry_read, entry_read_at, header_read, not_truncated, blocks_read_are, entry_read_is, length-entries_read, header_stays, most_bytes, Known, ExactFile, IsExactly, exact_block, exact_bytes, exact_database, exact_entry, exact_in, exact_size, exact_start, after_name_of, is_other, order_of, AreExactPlaces, HasValuesAt, IsOrdered, IsPlaceFault, KeepsParts, kept_exact, PlaceFault, Keep}
use Rattle.canonical_file.specs.Written.{ids_of, seed_of}
use Rattle.canonical_file.proofs.OwnIds.{own_id}
use Rattle.file_parts.specs.Kept.{IsKeepFault, IsKeeping, exact_keeping}
use Rattle.file_parts.specs.declared.exact_writing.PlaceFault.TheVariants.{TooLarge, OutOfMemory}
use Rattle.file_parts.specs.declared.exact_writing.Places.{Places}
use Rattle.file_parts.specs.declared.kept.Keeping.{Keeping}
use Rattle.file_parts.proofs.ExactInside.{inside_some}
use Rattle.file_parts.proofs.ExactRanks.{cases_above, get_or-same, those_are}
use Rattle.file_parts.proofs.ExactRead.{blocks_exact}
use Rattle.file_parts.proofs.KeptChanges.{plain_field}
use Rattle.file_parts.proofs.KeptSound.{IsWholeOrder, keeps, kept_long}
use Rattle.file_parts.proofs.PackedBack.{u16_small}

-- ---- the database as it stands, without busy records

one_own : (r : Bool) (file : List ℕ) (start given : ℕ) (block : Option (List ℕ))
    → (r ≡ false → given ≡ u24_at file (start + 5)) → idle_entry (entry_with {Data = ℕ} (λ _. block)
    (entry_at r file start)) ≡ entry_read (entry_at r file start) given block
one_own false file start given block own =
    ap (λ n. a_record (idle_attributes (get_or file (start + 4) 0)) n block) (sym (own refl))
one_own true file start given block own = refl

own_entry : (file : List ℕ) (k : ℕ) → k < entry_count_in file
    → idle_entry (exact_entry file k) ≡ entry_read_at file (unique_ids (database_in file)) k
own_entry file k inside = one_own (resources_in file) file (entry_offset (resources_in file) k)
    (get_or (unique_ids (database_in file)) k 0) (get_or (blocks_in file) (2 + k) None)
    (own_id file k inside)

some_entry : Entry (Option (List ℕ))
some_entry = a_record 0 0 None

own_entries : (file : List ℕ)
    → map idle_entry (map (exact_entry file) (range_with_len 0 (entry_count_in file))) ≡ map
    (entry_read_at file (unique_ids (database_in file))) (range_with_len 0 (entry_count_in file))
own_entries file =
    let es : List (Entry (Option (List ℕ))) =
    map (exact_entry file) (range_with_len 0 (entry_count_in file)) in
    let many = length-map-range_with_len (exact_entry file) 0 (entry_count_in file) in
    let long = length-map es (idle_entry {Data = Option (List ℕ)}) in
    fill_by_all (entry_read_at file (unique_ids (database_in file))) (map idle_entry es)
    (entry_count_in file) some_entry (omega arith) (λ k inside.
    get_or-map (idle_entry {Data = Option (List ℕ)}) es k some_entry some_entry (omega arith)
    ∙ ap (idle_entry {Data = Option (List ℕ)}) (get_or-map-range_with_len (exact_entry file) 0
    (entry_count_in file) k k some_entry inside (omega arith)) ∙ own_entry file k inside)

whole : DatabaseHeader → Option (List ℕ) → Option (List ℕ) → List (Entry (Option (List ℕ)))
    → Database (Option (List ℕ))
whole header app sort entries =
    record { header = header; app_info = app; sort_info = sort; entries = entries }

own_database : (file : List ℕ) → idle (exact_database file)
    ≡ database_read file (unique_ids (database_in file)) (seed_in (header_in file).seed)
unfolding exact_database database_read whole
own_database file =
    ap (λ h. whole h (get_or (blocks_in file) 0 None) (get_or (blocks_in file) 1 None)
    (map idle_entry (map (exact_entry file) (range_with_len 0 (entry_count_in file)))))
    (header_stays (header_in file)) ∙ ap (whole (header_read file (seed_in (header_in file).seed))
    (get_or (blocks_in file) 0 None) (get_or (blocks_in file) 1 None)) (own_entries file)

database_kept : (keeps : Bool) (file given ids : List ℕ) (last seed : ℕ)
    → ids ≡ (if keeps then unique_ids (database_in file) else given)
    → seed ≡ (if keeps then seed_in (header_in file).seed else last) → database_read file ids seed
    ≡ (if keeps then idle (exact_database file) else database_read file given last)
database_kept true file given ids last seed ids_are seed_is =
    ap (λ xs. database_read file xs seed) ids_are
    ∙ ap (database_read file (unique_ids (database_in file))) seed_is ∙ sym (own_database file)
database_kept false file given ids last seed ids_are seed_is =
    ap (λ (xs : List ℕ). database_read file xs seed) ids_are ∙ ap (database_read file given) seed_is

-- ---- ranks that are sorted are in list order

times_same : (q : ℕ) (xs ys : List ℕ) → IsPermutation xs ys → times q ys ≡ times q xs
times_same q xs ys all = sum_by-IsPermutation (λ (x : ℕ). cond (x == q) 1 0) xs ys all

pub sorted_list : (blocks : List (Option (List ℕ))) (ranks sorted : List ℕ)
    → IsWholeOrder blocks ranks → IsPermutation ranks sorted → IsNonDecreasing sorted
    → order_of blocks [] ≡ sorted
sorted_list blocks ranks sorted order all rising =
    let at_rank : (j : ℕ) → j < length sorted
    → is_some (get_or blocks (get_or sorted j 0) None) ≡ true = λ j inside. (
    let some = times-some (get_or sorted j 0) sorted j 0 inside refl in
    let same = times_same (get_or sorted j 0) ranks sorted all in
    order.there (get_or sorted j 0) (omega arith)) in
    those_are (is_other blocks []) 0 (length blocks) sorted (record {
      low = λ j inside. omega arith;
      high = λ j inside.
          (let less = inside_some blocks (get_or sorted j 0) (at_rank j inside) in omega arith);
      rising = λ i j less inside. cases_above (get_or sorted i 0) (get_or sorted j 0)
          (rising i j 0 (omega arith) inside) (λ same. twice i j less inside (sym same));
      there = λ r low high yes. (
          let some =
          order.all r (and_parts (is_some (get_or blocks r None)) (times r [] == 0) yes).0 in
          let same = times_same r ranks sorted all in
          let found = contained-times r sorted (omega arith) in
          (found.0, found.1, get_or-same sorted found.0 0 r found.1 ∙ found.2));
      passes = λ j inside. and_from (is_some (get_or blocks (get_or sorted j 0) None))
          (times (get_or sorted j 0) [] == 0) (at_rank j inside) refl;
    })
  where
    twice : (i j : ℕ) → i < j → j < length sorted → get_or sorted i 0 ≡ get_or sorted j 0 → ⊥
    twice i j less inside same = times-distinct sorted
        (λ q. (let is = times_same q ranks sorted all in let once = order.once q in omega arith)) i
        j 0 less inside same

-- ---- the file that is written

file_of_parts : Database (Option (List ℕ)) → List ℕ → List ℕ → List ℕ → ExactFile
file_of_parts database after filler order =
    record { database = database; after_name = after; filler = filler; order = order }

same_parts : (c e : Database (Option (List ℕ))) (m n p q r s : List ℕ) → c ≡ e → m ≡ n → p ≡ q
    → r ≡ s → file_of_parts c m p r ≡ file_of_parts e n q s
same_parts c e m n p q r s a b f g = cc

name_there : (file : List ℕ) → (exact_database file).header.name ≡ name_in file
unfolding exact_database header_in
name_there file = refl

pub keeping_is : (keep : Keep) (keeping : Keeping) (given order : List ℕ) (last : ℕ)
    → ids_of keeping.file keeping.ids ≡ (if keep.ids then unique_ids
    (database_in keeping.file) else given) → seed_of keeping.file keeping.ids
    ≡ (if keep.ids then seed_in (header_in keeping.file).seed else last)
    → keeping.filler.now ≡ (if keep.filler then filler_in keeping.file else written_filler)
    → keeping.ranks.items ≡ (if keep.order then order else order_of (blocks_in keeping.file) [])
    → exact_keeping keeping
    ≡ kept_exact keep (exact_in keeping.file order) (database_read keeping.file given last)
unfolding file_of_parts
keeping_is keep keeping given order last ids seed filler ranks =
    let file : List ℕ = keeping.file in
    same_parts _ _ _ _ _ _ _ _ (database_kept keep.ids file given _ last _ ids seed)
    (ap (λ (name : List ℕ). after_name_of name None) (sym (name_there file))) filler
    (ranks ∙ ap (λ (bs : List (Option (List ℕ))). if keep.order then order else order_of bs [])
    (sym (blocks_exact file)))

-- ---- what its parts are

pub count_is : (keeping : Keeping)
    → length (data_in (exact_keeping keeping).database) ≡ length (blocks_in keeping.file)
count_is keeping = ap length (blocks_read_are keeping.file (ids_of keeping.file keeping.ids)
    (seed_of keeping.file keeping.ids))

pub block_is : (keeping : Keeping) (rank : ℕ)
    → exact_block (exact_keeping keeping) rank ≡ get_or (blocks_in keeping.file) rank None
block_is keeping rank = ap (λ bs. get_or bs rank None) (blocks_read_are keeping.file
    (ids_of keeping.file keeping.ids) (seed_of keeping.file keeping.ids))

entries_long : (file ids : List ℕ) (seed : ℕ)
    → length (database_read file ids seed).entries ≡ entry_count_in file
unfolding database_read
entries_long file ids seed = length-entries_read file ids

pub entry_count : (keeping : Keeping)
    → length (exact_keeping keeping).database.entries ≡ entry_count_in keeping.file
entry_count keeping =
    entries_long keeping.file (ids_of keeping.file keeping.ids) (seed_of keeping.file keeping.ids)

entries_at : (file ids : List ℕ) (seed k : ℕ) → k < entry_count_in file
    → get_or (database_read file ids seed).entries k (a_record 0 0 None) ≡ entry_read_at file ids k
unfolding database_read
entries_at file ids seed k inside = entry_read_is file ids k (a_record 0 0 None) inside

placed_twice : (entry : Entry ℕ) (e : Entry (Option (List ℕ))) (low at : ℕ)
    → entry ≡ entry_with (λ _. low) e
    → entry_with {Data = ℕ} (λ _. at) entry ≡ entry_with (λ _. at) e
placed_twice entry (a_record attributes id block) low at is =
    ap (entry_with {Data = ℕ} (λ _. at)) is
placed_twice entry (a_resource kind id block) low at is = ap (entry_with {Data = ℕ} (λ _. at)) is

pub values_at : (keeping : Keeping) (k low : ℕ) (entry : Entry ℕ)
    → k < length (exact_keeping keeping).database.entries
    → entry ≡ entry_with (λ _. low) (entry_read_at keeping.file (ids_of keeping.file keeping.ids) k)
    → HasValuesAt (exact_keeping keeping) k entry
values_at keeping k low entry inside is = λ at.
    let count = entry_count keeping in
    placed_twice entry (entry_read_at keeping.file (ids_of keeping.file keeping.ids) k) low at is
    ∙ sym (ap (entry_with {Data = Option (List ℕ)} (λ _. at)) (entries_at keeping.file
    (ids_of keeping.file keeping.ids) (seed_of keeping.file keeping.ids) k (omega arith)))

header_of : (file ids : List ℕ) (seed : ℕ)
    → (database_read file ids seed).header ≡ header_read file seed
unfolding database_read
header_of file ids seed = refl

pub header_is : (keeping : Keeping) → (exact_keeping keeping).database.header
    ≡ header_read keeping.file (seed_of keeping.file keeping.ids)
header_is keeping =
    header_of keeping.file (ids_of keeping.file keeping.ids) (seed_of keeping.file keeping.ids)

-- the name in the header of a file
pub header_name : (file : List ℕ) → (header_in file).name ≡ name_in file
unfolding header_in
header_name file = refl

names_same : (file : List ℕ) (seed : ℕ) → (header_read file seed).name ≡ name_in file
unfolding header_in
names_same file seed = refl

pub name_is : (keeping : Keeping)
    → (exact_keeping keeping).database.header.name ≡ name_in keeping.file
name_is keeping = ap (λ h. h.name) (header_is keeping)
    ∙ names_same keeping.file (seed_of keeping.file keeping.ids)

kinds_same : (file : List ℕ) (seed : ℕ)
    → has_resources (header_read file seed).attributes ≡ resources_in file
unfolding header_in
kinds_same file seed = refl

-- the first block begins after the entries and the filler
pub start_is : (keeping : Keeping)
    → exact_start (exact_keeping keeping) ≡ entries_end keeping.file + length keeping.filler.now
start_is keeping =
    let file : List ℕ = keeping.file in
    let kind = ap (λ h. has_resources h.attributes) (header_is keeping)
    ∙ kinds_same file (seed_of file keeping.ids) in
    ap (λ (r : Bool). entry_offset r (length (exact_keeping keeping).database.entries)
    + length keeping.filler.now) kind
    ∙ ap (λ (n : ℕ). entry_offset (resources_in file) n + length keeping.filler.now)
    (entry_count keeping)

pub field_is : (keeping : Keeping) → name_field (name_in keeping.file)
    ≡ (exact_keeping keeping).database.header.name ++ (exact_keeping keeping).after_name
field_is keeping = plain_field (name_in keeping.file)
    ∙ ap (λ name. name ++ after_name_of (name_in keeping.file) None) (sym (name_is keeping))

-- the first block begins within the limit of a file
few_ends : (file : List ℕ) → AreBytes file → entries_end file + 2 ≤ most_bytes
few_ends file b = by_kind (resources_in file) where
  by_kind : (r : Bool) → entry_offset r (entry_count_in file) + 2 ≤ most_bytes
  by_kind false = let small = u16_small file 76 b in omega arith
  by_kind true = let small = u16_small file 76 b in omega arith

pub fits : (keeping : Keeping) → IsKeeping keeping
    → entries_end keeping.file + length keeping.filler.now ≤ most_bytes
fits keeping g = elim g.filler [
  | inl own ↦
      (let file : List ℕ = keeping.file in
      let long = ap (λ (xs : List ℕ). length xs) own in
      let rest = length-drop (entries_end file) file in
      let front =
      length-take (first_start file - entries_end file) (drop (entries_end file) file) in
      let inside = (not_truncated file g.good).1 in
      let short = g.short in
      omega arith)
  | inr plain ↦
      (let long = ap (λ (xs : List ℕ). length xs) plain in
      let few = few_ends keeping.file g.numbers in
      omega arith)
]

-- ---- the order and the filler that are kept or not

pub whole_permuted : (blocks : List (Option (List ℕ))) (ranks new : List ℕ)
    → IsWholeOrder blocks ranks → IsPermutation ranks new → IsWholeOrder blocks new
whole_permuted blocks ranks new order all = record {
  once = λ q. (let same = times_same q ranks new all in let once = order.once q in omega arith);
  there = λ q some. (let same = times_same q ranks new all in order.there q (omega arith));
  all = λ q some.
      (let same = times_same q ranks new all in let more = order.all q some in omega arith);
}

pub ranks_are : (keeps : Bool) (blocks : List (Option (List ℕ))) (ranks new : List ℕ)
    → IsWholeOrder blocks ranks → (IsTrue keeps → new ≡ ranks) → IsPermutation ranks new
    → (IsFalse keeps → IsNonDecreasing new) → new ≡ (if keeps then ranks else order_of blocks [])
ranks_are true blocks ranks new order kept all sorted = kept refl
ranks_are false blocks ranks new order kept all sorted =
    sym (sorted_list _ _ new order all (sorted refl))

pub filler_either : (keeps : Bool) (filler own plain : List ℕ)
    → filler ≡ (if keeps then own else plain) → (filler ≡ own) ⊎ (filler ≡ plain)
filler_either true filler own plain is = inl is
filler_either false filler own plain is = inr is

pub keeping_ordered : (keeping : Keeping)
    → IsWholeOrder (blocks_in keeping.file) keeping.ranks.items → IsOrdered (exact_keeping keeping)
keeping_ordered keeping order =
    let count = count_is keeping in
    record {
      inside = λ rank some. (let less =
          inside_some (blocks_in keeping.file) rank (order.there rank some) in omega arith);
      once = order.once;
    }

-- ---- a file that is laid out

module _ (keep : Keep) (keeping : Keeping) (places : Places) (file order given : List ℕ) (last : ℕ)
    (known : Known file (database_read file given last)) (is : IsExactly file (exact_in file order))
    (same : exact_keeping keeping ≡ kept_exact keep (exact_in file order)
    (database_read file given last)) (are : AreExactPlaces (exact_keeping keeping) places) where
  small : exact_size (kept_exact keep (exact_in file order) (database_read file given last))
      ≤ most_bytes
  small =
      let size = are.size in
      let fits_in = are.fits in
      subst (λ (x : ExactFile). exact_size x ≤ most_bytes) same (omega (arith, size, fits_in))

  pub kept_from : KeepsParts keep file (exact_bytes (exact_keeping keeping))
  kept_from = rw same (keeps keep _ _ _ known is small)

  pub kept_size : places.size ≡ length (exact_bytes (exact_keeping keeping))
  kept_size =
      are.size
      ∙ subst (λ (x : ExactFile). exact_size x ≡ length (exact_bytes x)) (sym same)
      (kept_long keep _ _ _ known is small)

pub keep_why : (keep : Keep) (keeping : Keeping) (file order given : List ℕ) (last : ℕ)
    (fault : PlaceFault) → Known file (database_read file given last)
    → IsExactly file (exact_in file order)
    → exact_keeping keeping ≡ kept_exact keep (exact_in file order) (database_read file given last)
    → IsPlaceFault (exact_size (exact_keeping keeping)) fault → IsKeepFault keep file fault
keep_why keep keeping file order given last TooLarge known is same large =
    let over = subst (λ (x : ExactFile). most_bytes < exact_size x) same large in
    (exact_in file order, is, (database_read file given last, known.reads, over))
keep_why keep keeping file order given last OutOfMemory known is same large = tt
