-- A file that is put together is taken apart as its parts, with the IDs that are given.
use Rattle.file_parts.proofs.AllWords.{◌≡◌, ℕ, ◌+◌, ◌<◌, ◌≤◌, Bool, true, false, Option, List, [], ◌∷◌, length, map, refl, sym, ap, subst, ◌∙◌, arith, All, bit_and, AllZip, filter_map, and_le_l, All-head, All-tail, All-nil, All-cons, greatest_id, seed_in, Database, DatabaseHeader, Entry, a_record, a_resource, entry_data, entry_offset, has_resources, is_deleted, IsDatabaseName, unique_id, unique_ids, kept_ids, idle, idle_attributes, idle_entry, Reads, first_block, file_of, IsWritableEntry, file_size, HasFile, IsKeptAs, IsReadBack, file_reads, idle_twice, read_back, still_deleted, all_bytes, IsCanonical, fits_seeded, UnpacksBack}
use Rattle.file_ids.proofs.GivenLaws.{given_distinct}
use Rattle.canonical_file.proofs.GivenFit.{given_fit}
use Rattle.file_parts.proofs.PackedBack.{none_zero, zip_idle}

-- ---- the IDs that are given

ids_most : (r : Bool) (es : List (Entry (Option (List ℕ)))) → All (IsWritableEntry r) es
    → All (λ id. id ≤ greatest_id) (filter_map unique_id es)
ids_most r [] all = All-nil (λ id. id ≤ greatest_id)
ids_most false (a_record attributes id block ∷ es) all =
    let one = All-head (IsWritableEntry false) (a_record attributes id block) es all in
    let low = one.1 in
    All-cons (λ id. id ≤ greatest_id) id (filter_map unique_id es) (omega arith)
    (ids_most false es (All-tail (IsWritableEntry false) (a_record attributes id block) es all))
ids_most true (a_record attributes id block ∷ es) all =
    absurd (All-head (IsWritableEntry true) (a_record attributes id block) es all)
ids_most r (a_resource kind id block ∷ es) all =
    ids_most r es (All-tail (IsWritableEntry r) (a_resource kind id block) es all)

-- ---- the entries

same_head : {X : Type 0} (x y : X) (xs ys : List X) → x ∷ xs ≡ y ∷ ys → (x ≡ y) × (xs ≡ ys)
same_head x y xs ys e = (cc, cc)

kept_count : (es fs : List (Entry (Option (List ℕ)))) → AllZip IsKeptAs es fs
    → length fs ≡ length es
kept_count [] [] all = refl
kept_count [] (f ∷ fs) all = absurd all
kept_count (e ∷ es) [] all = absurd all
kept_count (e ∷ es) (f ∷ fs) all = let rest = kept_count es fs all.1 in omega arith

-- no record is busy
kept_still : (e f : Entry (Option (List ℕ))) → IsKeptAs e f → idle_entry f ≡ f
kept_still (a_record attributes id block) (a_record idle_ones other other_block) is = ap (λ n.
    a_record n other other_block) (ap idle_attributes is ∙ sym (idle_twice attributes) ∙ sym is)
kept_still (a_record attributes id block) (a_resource kind other other_block) is = absurd is
kept_still (a_resource kind id block) (a_record attributes other other_block) is = absurd is
kept_still (a_resource kind id block) (a_resource other_kind other other_block) is = refl

kept_idle : (es fs : List (Entry (Option (List ℕ)))) → AllZip IsKeptAs es fs
    → map idle_entry fs ≡ fs
kept_idle es fs all = zip_idle IsKeptAs es fs all kept_still

one_record : (attributes id other_attributes other_id : ℕ) (block other_block : Option (List ℕ))
    → IsWritableEntry false (a_record attributes id block)
    → other_attributes ≡ bit_and attributes 0xDF → other_id ≤ greatest_id → other_block ≡ block
    → IsWritableEntry false (a_record other_attributes other_id other_block)
one_record attributes id other_attributes other_id block other_block one is fits same =
    let less = and_le_l attributes 0xDF in
    let small = one.0 in (
      omega arith,
      omega arith,
      λ none. ap is_deleted is ∙ still_deleted attributes ∙ one.2 (sym same ∙ none),
    )

one_resource : (kind id other_kind other_id : ℕ) (block other_block : Option (List ℕ))
    → IsWritableEntry true (a_resource kind id block) → other_kind ≡ kind → other_id ≡ id
    → other_block ≡ block → IsWritableEntry true (a_resource other_kind other_id other_block)
one_resource kind id other_kind other_id block other_block one is also same =
    let kind_fits = one.0 in
    let id_fits = one.1 in
    (omega arith, omega arith, λ none. one.2 (sym same ∙ none))

kept_writable : (r : Bool) (es fs : List (Entry (Option (List ℕ)))) → AllZip IsKeptAs es fs
    → All (IsWritableEntry r) es
    → All (λ id. (0 < id) × (id ≤ greatest_id)) (filter_map unique_id fs)
    → map entry_data fs ≡ map entry_data es → All (IsWritableEntry r) fs
kept_writable r [] [] all good fit same = All-nil (IsWritableEntry r)
kept_writable r [] (f ∷ fs) all good fit same = absurd all
kept_writable r (e ∷ es) [] all good fit same = absurd all
kept_writable false (a_record attributes id block ∷ es)
    (a_record other_attributes other_id other_block ∷ fs) all good fit same =
    let both = same_head other_block block (map entry_data fs) (map entry_data es) same in
    let here = All-head (λ q. (0 < q) × (q ≤ greatest_id)) other_id (filter_map unique_id fs) fit in
    All-cons (IsWritableEntry false) (a_record other_attributes other_id other_block) fs
    (one_record attributes id _ other_id _ _ (All-head (IsWritableEntry false)
    (a_record attributes id block) es good) all.0 here.1 both.0) (kept_writable false es fs all.1
    (All-tail (IsWritableEntry false) (a_record attributes id block) es good)
    (All-tail (λ q. (0 < q) × (q ≤ greatest_id)) other_id (filter_map unique_id fs) fit) both.1)
kept_writable true (a_record attributes id block ∷ es)
    (a_record other_attributes other_id other_block ∷ fs) all good fit same =
    absurd (All-head (IsWritableEntry true) (a_record attributes id block) es good)
kept_writable r (a_record attributes id block ∷ es)
    (a_resource other_kind other_id other_block ∷ fs) all good fit same = absurd all.0
kept_writable r (a_resource kind id block ∷ es)
    (a_record other_attributes other_id other_block ∷ fs) all good fit same = absurd all.0
kept_writable false (a_resource kind id block ∷ es)
    (a_resource other_kind other_id other_block ∷ fs) all good fit same =
    absurd (All-head (IsWritableEntry false) (a_resource kind id block) es good)
kept_writable true (a_resource kind id block ∷ es)
    (a_resource other_kind other_id other_block ∷ fs) all good fit same =
    let both = same_head other_block block (map entry_data fs) (map entry_data es) same in
    All-cons (IsWritableEntry true) (a_resource other_kind other_id other_block) fs
    (one_resource _ id _ _ _ _ (All-head (IsWritableEntry true) (a_resource kind id block) es good)
    all.0.0 all.0.1 both.0) (kept_writable true es fs all.1
    (All-tail (IsWritableEntry true) (a_resource kind id block) es good) fit both.1)

-- ---- the database that is read has a file, which is read as it

with_entries : Database (Option (List ℕ)) → List (Entry (Option (List ℕ)))
    → Database (Option (List ℕ))
with_entries d es = record d { entries = es }

module _ (d e : Database (Option (List ℕ))) (back : IsReadBack d e) where
  read_idle : idle e ≡ e
  unfolding with_entries
  read_idle = ap (with_entries e) (kept_idle d.entries e.entries back.entries)

  same_size : file_size e ≡ file_size d
  same_size =
      let first : first_block e ≡ first_block d =
      ap (λ h. entry_offset (has_resources h.attributes) (length e.entries) + 2) back.header
      ∙ ap (λ (n : ℕ). entry_offset (has_resources d.header.attributes) n + 2)
      (kept_count d.entries e.entries back.entries) in
      let long = ap (λ (xs : List (Option (List ℕ))). length (all_bytes xs)) back.blocks in
      omega arith

read_fit : (d e : Database (Option (List ℕ))) (back : IsReadBack d e) → HasFile d
    → All (λ id. (0 < id) × (id ≤ greatest_id)) (unique_ids e) × (back.last_seed ≤ greatest_id)
read_fit d e back is = given_fit (kept_ids [] (unique_ids d)) [] (seed_in d.header.seed)
    (unique_ids d) (unique_ids e) back.last_seed (omega arith)
    (ids_most (has_resources d.header.attributes) d.entries is.entries) back.ids

module _ (d e : Database (Option (List ℕ))) (back : IsReadBack d e) (is : HasFile d) where
  read_has_file : HasFile e
  read_has_file =
      let fit = read_fit d e back is in
      let count = kept_count d.entries e.entries back.entries in
      let few = is.entry_count in
      let size = is.size in
      let same = same_size d e back in
      let kind : has_resources e.header.attributes ≡ has_resources d.header.attributes =
      ap (λ (h : DatabaseHeader). has_resources h.attributes) back.header in
      let blocks = (same_head _ _ _ _ (same_head _ _ _ _ back.blocks).1).1 in
      record {
        name = subst (λ (h : DatabaseHeader). IsDatabaseName h.name) (sym back.header) is.name;
        header = rw back.header (fits_seeded _ back.last_seed is.header fit.1);
        entries = rw kind (kept_writable (has_resources d.header.attributes) d.entries e.entries
            back.entries is.entries fit.0 blocks);
        entry_count = omega arith;
        size = omega arith;
      }

  read_again : Reads (file_of e) e
  read_again = subst (Reads (file_of e)) (read_idle d e back) (file_reads e read_has_file
      (none_zero (unique_ids e) (read_fit d e back is).0) (given_distinct (seed_in d.header.seed)
      (unique_ids d) (unique_ids e) back.last_seed back.ids))

pub unpacks_back : (d : Database (Option (List ℕ))) (bytes : List ℕ) → HasFile d
    → IsCanonical (file_of d) bytes → UnpacksBack d bytes
unpacks_back d bytes is canonical =
    let e : Database (Option (List ℕ)) = canonical.database in
    let back = read_back d e is canonical.reads in
    record {
      read = e;
      reads = rw canonical.written (read_again d e back is);
      back = back;
    }
