-- A file that keeps some things is read back as this file.
use Rattle.file_parts.proofs.AllWords.{◌≡◌, ℕ, suc, ◌+◌, ◌^◌, ◌<◌, ◌≤◌, Bool, true, false, None, List, [], ◌∷◌, length, get_or, map, refl, sym, ap, subst, ◌∙◌, arith, All, ◌==◌, ◌&&◌, if◌then◌else◌, nat_lt, is_some, slice_index, AllZip, filter_map, range_with_len, and_from, and_parts, ltb-true, and_le_l, length-map, All-head, All-tail, All-nil, All-cons, AreBytes, times, greatest_id, Database, Entry, HeaderFits, IsDatabaseName, a_record, a_resource, data_in, database_in, entry_data, has_resources, header_in, is_deleted, unique_id, IsReadAs, block_size, blocks_in, idle, idle_entry, contained-times, distinct-times, times-some, IsWritableEntry, block_count, offset_count, still_deleted, zip_long, most_bytes, Known, fits_seeded, same_head, ExactFile, HasValuesOf, IsExactly, exact_bytes, exact_size, after_name_of, is_other, order_of, KeepsParts, kept_exact, Keep, Blob}
use Rattle.file_parts.proofs.ExactBlocksBack.{times_in}
use Rattle.file_parts.proofs.ExactFits.{all_writable, count_small, database_same, file_header, file_name}
use Rattle.file_parts.proofs.ExactHeadBack.{AreAfter}
use Rattle.file_parts.proofs.ExactInside.{inside_some, ranks_once, times_not}
use Rattle.file_parts.proofs.ExactPackedBack.{kept_rises, zeros_after}
use Rattle.file_parts.proofs.ExactRanks.{apart, found_in, get_or-same, not_true, rank_there}
use Rattle.file_parts.proofs.ExactReadBack.{IsSound, file_long, reads_back}
use Rattle.file_parts.proofs.ExactSpelled.{order_sorted, placed_well}
use Rattle.file_parts.proofs.KeptForms.{canonical_form, name_read}
use Rattle.file_parts.proofs.ReplacedSound.{there_as}

-- ---- its values

one_idle : (r : Bool) (e : Entry Blob) → IsWritableEntry r e → IsWritableEntry r (idle_entry e)
one_idle false (a_record a id block) one =
    let less = and_le_l a 0xDF in
    (omega arith, one.1, λ none. still_deleted a ∙ one.2 none)
one_idle true (a_resource kind id block) one = one
one_idle true (a_record a id block) one = absurd one
one_idle false (a_resource kind id block) one = absurd one

all_idle : (r : Bool) (es : List (Entry Blob)) → All (IsWritableEntry r) es
    → All (IsWritableEntry r) (map idle_entry es)
all_idle r [] all = All-nil (IsWritableEntry r)
all_idle r (e ∷ es) all = All-cons (IsWritableEntry r) (idle_entry e) (map idle_entry es)
    (one_idle r e (All-head (IsWritableEntry r) e es all))
    (all_idle r es (All-tail (IsWritableEntry r) e es all))

-- the entries that are read have the attributes of idle ones, IDs that fit, and the same data
all_read : (r : Bool) (xs : List (Entry ℕ)) (es fs : List (Entry Blob)) → AllZip HasValuesOf xs es
    → AllZip IsReadAs xs fs → map entry_data fs ≡ map entry_data es
    → All (λ id. (0 < id) × (id ≤ greatest_id)) (filter_map unique_id fs)
    → All (IsWritableEntry r) es → All (IsWritableEntry r) fs
all_read r [] [] [] zip reads same fit all = All-nil (IsWritableEntry r)
all_read r [] (e ∷ es) fs zip reads same fit all = absurd zip
all_read r [] [] (f ∷ fs) zip reads same fit all = absurd reads
all_read r (x ∷ xs) [] fs zip reads same fit all = absurd zip
all_read r (x ∷ xs) (e ∷ es) [] zip reads same fit all = absurd reads
all_read r (a_record a id at ∷ xs) (a_resource kind other block ∷ es) fs zip reads same fit all =
    absurd zip.0
all_read r (a_resource kind id at ∷ xs) (a_record a other block ∷ es) fs zip reads same fit all =
    absurd zip.0
all_read r (a_record a id at ∷ xs) (a_record own other block ∷ es)
    (a_resource kind new «data» ∷ fs) zip reads same fit all = absurd reads.0
all_read r (a_resource kind id at ∷ xs) (a_resource own other block ∷ es)
    (a_record a new «data» ∷ fs) zip reads same fit all = absurd reads.0
all_read true (a_record a id at ∷ xs) (a_record own other block ∷ es)
    (a_record idle_ones new «data» ∷ fs) zip reads same fit all =
    absurd (All-head (IsWritableEntry true) (a_record own other block) es all)
all_read false (a_resource kind id at ∷ xs) (a_resource own other block ∷ es)
    (a_resource read new «data» ∷ fs) zip reads same fit all =
    absurd (All-head (IsWritableEntry false) (a_resource own other block) es all)
all_read false (a_record a id at ∷ xs) (a_record own other block ∷ es)
    (a_record idle_ones new «data» ∷ fs) zip reads same fit all =
    let one = All-head (IsWritableEntry false) (a_record own other block) es all in
    let less = and_le_l a 0xDF in
    let is = reads.0 in
    let was = zip.0.0 in
    let most = (All-head (λ i. (0 < i) × (i ≤ greatest_id)) new (filter_map unique_id fs) fit).1 in
    let head = same_head «data» block (map entry_data fs) (map entry_data es) same in
    All-cons (IsWritableEntry false) (a_record idle_ones new «data») fs (
      omega arith,
      omega arith,
      λ gone. ap is_deleted is ∙ still_deleted a ∙ sym (ap is_deleted was)
          ∙ one.2 (sym head.0 ∙ gone),
    ) (all_read false xs es fs zip.1 reads.1 head.1
    (All-tail (λ i. (0 < i) × (i ≤ greatest_id)) new (filter_map unique_id fs) fit)
    (All-tail (IsWritableEntry false) (a_record own other block) es all))
all_read true (a_resource kind id at ∷ xs) (a_resource own other block ∷ es)
    (a_resource read new «data» ∷ fs) zip reads same fit all =
    let one = All-head (IsWritableEntry true) (a_resource own other block) es all in
    let head = same_head «data» block (map entry_data fs) (map entry_data es) same in
    All-cons (IsWritableEntry true) (a_resource read new «data») fs
    (omega arith, omega arith, λ gone. one.2 (sym head.0 ∙ gone)) (all_read true xs es fs zip.1
    reads.1 head.1 fit (All-tail (IsWritableEntry true) (a_resource own other block) es all))

data_idle : (es : List (Entry Blob)) → map entry_data (map idle_entry es) ≡ map entry_data es
data_idle [] = refl
data_idle (a_record a id block ∷ es) = ap (λ bs. block ∷ bs) (data_idle es)
data_idle (a_resource kind id block ∷ es) = ap (λ bs. block ∷ bs) (data_idle es)

-- what holds of the database that is written
record IsFitting (file : List ℕ) (d : Database Blob) : Type 0 where
  name : IsDatabaseName d.header.name
  header : HeaderFits d.header
  entries : All (IsWritableEntry (has_resources d.header.attributes)) d.entries
  few : length d.entries < 2 ^ 16
  blocks : data_in d ≡ blocks_in file

module _ (file : List ℕ) (exact : ExactFile) (d : Database Blob) (known : Known file d)
    (is : IsExactly file exact) where
  -- the database as it stands
  fits_exact : IsFitting file exact.database
  fits_exact =
      let same = database_same file exact is in
      record {
        name = subst (λ x. IsDatabaseName x.header.name) (sym same) (file_name file is.good);
        header = subst (λ x. HeaderFits x.header) (sym same) (file_header file known.bytes);
        entries = subst (λ x. All (IsWritableEntry (has_resources x.header.attributes)) x.entries)
            (sym same) (all_writable file is.good known.bytes);
        few = subst (λ x. length x.entries < 2 ^ 16) (sym same) (count_small file known.bytes);
        blocks = is.blocks;
      }

  fits_own : IsFitting file (idle exact.database)
  fits_own =
      let fits = fits_exact in
      let long = length-map exact.database.entries (idle_entry {Data = Blob}) in
      let few = fits.few in
      record {
        name = fits.name;
        header = fits.header;
        entries = all_idle (has_resources exact.database.header.attributes) exact.database.entries
            fits.entries;
        few = omega arith;
        blocks = cc (data_idle exact.database.entries, fits.blocks);
      }

  same_entries : map entry_data d.entries ≡ map entry_data exact.database.entries
  same_entries =
      let blocks : data_in d ≡ data_in exact.database = known.reads.blocks ∙ sym is.blocks in
      (same_head d.sort_info exact.database.sort_info _ _
      (same_head d.app_info exact.database.app_info _ _ blocks).1).1

  kind_same : has_resources exact.database.header.attributes ≡ has_resources d.header.attributes
  kind_same = cc (is.header, known.reads.header)

  fits_read : IsFitting file d
  fits_read =
      let fits = fits_exact in
      let few = fits.few in
      let one = zip_long HasValuesOf (database_in file).entries exact.database.entries is.entries in
      let two = zip_long IsReadAs (database_in file).entries d.entries known.reads.entries in
      record {
        name = subst IsDatabaseName (name_read file exact d is known.reads) fits.name;
        header = subst HeaderFits (sym known.reads.header) (fits_seeded (header_in file)
            known.reads.last_seed (subst HeaderFits is.header fits.header) known.seed);
        entries = subst (λ r. All (IsWritableEntry r) d.entries) kind_same
            (all_read (has_resources exact.database.header.attributes)
            (database_in file).entries exact.database.entries d.entries is.entries
            known.reads.entries same_entries known.fit fits.entries);
        few = omega arith;
        blocks = known.reads.blocks;
      }

  fits_kept : (keeps : Bool) → IsFitting file (if keeps then idle exact.database else d)
  fits_kept true = fits_own
  fits_kept false = fits_read

  name_kept : (keeps : Bool)
      → (if keeps then idle exact.database else d).header.name ≡ exact.database.header.name
  name_kept true = refl
  name_kept false = sym (name_read file exact d is known.reads)

-- ---- the order of its blocks

-- each block that is there is in the order, and is there once
pub record IsWholeOrder (blocks : List Blob) (ranks : List ℕ) : Type 0 where
  pub once : (q : ℕ) → times q ranks ≤ 1
  pub there : (q : ℕ) → 0 < times q ranks → is_some (get_or blocks q None) ≡ true
  pub all : (q : ℕ) → is_some (get_or blocks q None) ≡ true → 0 < times q ranks

-- the block at an index of an order is misplaced
abbrev misplaced : List Blob → List ℕ → ℕ → Bool
misplaced blocks ranks index = nat_lt (index + 1) (length ranks)
    && nat_lt (slice_index ranks (index + 1)) (slice_index ranks index)
    && (block_size (get_or blocks (slice_index ranks index) None) == 0)

pub own_order : (file : List ℕ) (exact : ExactFile) → AreBytes file → IsExactly file exact
    → IsWholeOrder (blocks_in file) exact.order
own_order file exact b is =
    let ranks : List ℕ = exact.order in
    let sorted = order_sorted file exact b is in
    let count = block_count file in
    let offsets = offset_count file in
    record {
      once = distinct-times ranks (λ i j e less below same. apart file ranks i j sorted less below
          (get_or-same ranks i 0 e (omega arith) ∙ same ∙ sym (get_or-same ranks j 0 e below)));
      there = λ q some. (
          let found = contained-times q ranks some in
          subst (λ r. is_some (get_or (blocks_in file) r None) ≡ true)
          (get_or-same ranks found.0 0 q found.1 ∙ found.2)
          (rank_there file ranks (blocks_in file) found.0 sorted (there_as file) found.1));
      all = λ q some. (
          let less = inside_some (blocks_in file) q some in
          let found = found_in file ranks q sorted (omega arith) some in
          times-some q ranks found.0 0 found.1 found.2);
    }

list_order : (blocks : List Blob) → IsWholeOrder blocks (order_of blocks [])
list_order blocks = record {
  once = ranks_once blocks [] refl;
  there = λ q some. by_test q some (is_other blocks [] q) refl;
  all = λ q some. times_in (is_other blocks []) q 0 (length blocks) (omega arith)
      (omega (arith, inside_some blocks q some))
      (and_from (is_some (get_or blocks q None)) (times q [] == 0) some refl);
}
  where
    by_test : (q : ℕ) → 0 < times q (order_of blocks []) → (v : Bool) → is_other blocks [] q ≡ v
        → is_some (get_or blocks q None) ≡ true
    by_test q some true is = (and_parts (is_some (get_or blocks q None)) (times q [] == 0) is).0
    by_test q some false is = absurd
        (omega (arith, times_not (is_other blocks []) q (range_with_len 0 (length blocks)) is))

-- in list order no block is misplaced
list_placed : (blocks : List Blob) (index : ℕ) → misplaced blocks (order_of blocks []) index ≡ false
list_placed blocks index = not_true (misplaced blocks (order_of blocks []) index) (λ is.
    (let ranks : List ℕ = order_of blocks [] in
    let here : Bool = nat_lt (index + 1) (length ranks) in
    let falls : Bool = nat_lt (slice_index ranks (index + 1)) (slice_index ranks index) in
    let empty : Bool = block_size (get_or blocks (slice_index ranks index) None) == 0 in
    let first = and_parts (here && falls) empty is in
    let second = and_parts here falls first.0 in
    let inside = ltb-true (index + 1) (length ranks) second.0 in
    let lower = ltb-true (slice_index ranks (index + 1)) (slice_index ranks index) second.1 in
    let next : index + 1 ≡ suc index = omega arith in
    let up = kept_rises (is_other blocks []) 0 (length blocks) index (omega arith) in
    omega (arith, ap (slice_index ranks) next)))

order_kept : (keeps : Bool) (file : List ℕ) (exact : ExactFile) → AreBytes file
    → IsExactly file exact → IsWholeOrder (blocks_in file)
    (if keeps then exact.order else order_of (data_in exact.database) [])
order_kept true file exact b is = own_order file exact b is
order_kept false file exact b is = subst (λ bs. IsWholeOrder (blocks_in file) (order_of bs []))
    (sym is.blocks) (list_order (blocks_in file))

placed_kept : (keeps : Bool) (file : List ℕ) (exact : ExactFile) (index : ℕ) → AreBytes file
    → IsExactly file exact → misplaced (blocks_in file) (if keeps then exact.order else order_of
    (data_in exact.database) []) index ≡ false
placed_kept true file exact index b is = subst (λ bs. misplaced bs exact.order index ≡ false)
    is.blocks (placed_well file exact b is index)
placed_kept false file exact index b is =
    subst (λ bs. misplaced (blocks_in file) (order_of bs []) index ≡ false) (sym is.blocks)
    (list_placed (blocks_in file) index)

-- ---- all of it

pub sound_kept : (keep : Keep) (file : List ℕ) (exact : ExactFile) (d : Database Blob)
    → Known file d → IsExactly file exact → exact_size (kept_exact keep exact d) ≤ most_bytes
    → IsSound (kept_exact keep exact d)
sound_kept keep file exact d known is size =
    let fits = fits_kept file exact d known is keep.ids in
    let whole = order_kept keep.order file exact known.bytes is in
    let named = name_kept file exact d known is keep.ids in
    let valid = fits.name in
    let room = valid.room in
    record {
      name = fits.name;
      header = fits.header;
      entries = fits.entries;
      few = fits.few;
      after = subst (λ name. AreAfter (kept_exact keep exact d).database.header.name
          (after_name_of name None)) named
          (zeros_after (kept_exact keep exact d).database.header.name room);
      once = whole.once;
      there = λ q some. ap (λ bs. is_some (get_or bs q None)) fits.blocks ∙ whole.there q some;
      all = λ q some. whole.all q (sym (ap (λ bs. is_some (get_or bs q None)) fits.blocks) ∙ some);
      placed = λ index. subst (λ bs. misplaced bs (kept_exact keep exact d).order index ≡ false)
          (sym fits.blocks) (placed_kept keep.order file exact index known.bytes is);
      size = omega arith;
    }

-- the size of the file
pub kept_long : (keep : Keep) (file : List ℕ) (exact : ExactFile) (d : Database Blob) → Known file d
    → IsExactly file exact → exact_size (kept_exact keep exact d) ≤ most_bytes
    → exact_size (kept_exact keep exact d) ≡ length (exact_bytes (kept_exact keep exact d))
kept_long keep file exact d known is size =
    sym (file_long (kept_exact keep exact d) (sound_kept keep file exact d known is size))

pub keeps : (keep : Keep) (file : List ℕ) (exact : ExactFile) (d : Database Blob) → Known file d
    → IsExactly file exact → exact_size (kept_exact keep exact d) ≤ most_bytes
    → KeepsParts keep file (exact_bytes (kept_exact keep exact d))
keeps keep file exact d known is size = record {
  exact = exact;
  exactly = is;
  database = d;
  reads = known.reads;
  is = refl;
  read = reads_back (kept_exact keep exact d) (sound_kept keep file exact d known is size);
  canonical = λ nothing. canonical_form keep file exact d is known.reads nothing;
}
