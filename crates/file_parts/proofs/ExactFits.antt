-- What a file is exactly has a text.
use Rattle.file_parts.proofs.AllWords.{◌≡◌, ℕ, suc, ◌+◌, ◌^◌, ◌<◌, Bool, true, false, None, List, length, map, get_or, refl, sym, ap, subst, arith, All, range_with_len, get_or-map, fill_by_all, get_or-map-range_with_len, length-map-range_with_len, big_from-lt, AreBytes, u24_at, Database, DatabaseHeader, Entry, a_record, a_resource, HeaderFits, IsDatabaseName, database_in, entry_at, entry_count_in, entry_data, entry_in, entry_offset, entry_with, has_resources, header_in, resources_in, HasNoFault, blocks_in, size_of_block, header_fits, IsWritableEntry, none_planned, record_block, resource_block, file_named, zip_at, zip_long, with_names, HasText, ExactFile, HasValuesOf, IsExactly, exact_database, exact_entry, Blob}
use Rattle.file_parts.proofs.PackedBack.{u16_small, u32_small}
use Rattle.file_parts.proofs.PartsBack.{has_text_of, name_bytes}

one_writable : (file : List ℕ) (k : ℕ) (r : Bool) → HasNoFault file → AreBytes file
    → k < entry_count_in file → r ≡ resources_in file → IsWritableEntry r
    (entry_with (λ _. get_or (blocks_in file) (2 + k) None) (entry_at r file (entry_offset r k)))
unfolding u24_at
one_writable file k false good bytes inside is =
    let at : ℕ = entry_offset false k in
    let here : entry_at false file at ≡ entry_in file k =
    ap (λ r. entry_at r file (entry_offset r k)) is in (
      bytes (at + 4),
      big_from-lt (at + 5) 3 file bytes,
      λ none. record_block file k (get_or file (at + 4) 0) _ _ good inside here
          (none_planned file k (entry_at false file at) inside here (ap size_of_block none)),
    )
one_writable file k true good bytes inside is =
    let at : ℕ = entry_offset true k in
    let here : entry_at true file at ≡ entry_in file k =
    ap (λ r. entry_at r file (entry_offset r k)) is in (
      u32_small file at bytes,
      u16_small file (at + 4) bytes,
      λ none. resource_block file k _ _ _ good inside here
          (none_planned file k (entry_at true file at) inside here (ap size_of_block none)),
    )

pub all_writable : (file : List ℕ) → HasNoFault file → AreBytes file
    → All (IsWritableEntry (has_resources (exact_database file).header.attributes))
    (exact_database file).entries
unfolding exact_database header_in
all_writable file good bytes = λ k d inside.
    let long = length-map-range_with_len (exact_entry file) 0 (entry_count_in file) in
    let less : k < entry_count_in file = omega arith in
    subst (IsWritableEntry (resources_in file)) (sym (get_or-map-range_with_len (exact_entry file) 0
    (entry_count_in file) k k d less (omega arith)))
    (one_writable file k (resources_in file) good bytes less refl)

pub count_small : (file : List ℕ) → AreBytes file → length (exact_database file).entries < 2 ^ 16
unfolding exact_database
count_small file bytes =
    let long = length-map-range_with_len (exact_entry file) 0 (entry_count_in file) in
    omega (arith, u16_small file 76 bytes)

pub file_name : (file : List ℕ) → HasNoFault file → IsDatabaseName (exact_database file).header.name
unfolding exact_database header_in
file_name file good = file_named file good

pub file_header : (file : List ℕ) → AreBytes file → HeaderFits (exact_database file).header
unfolding exact_database
file_header file bytes = header_fits file bytes

file_name_bytes : (file : List ℕ) → AreBytes file → AreBytes (exact_database file).header.name
unfolding exact_database header_in
file_name_bytes file bytes = name_bytes file bytes

-- the database of a file as it stands has a text
pub file_has_text : (file : List ℕ) → HasNoFault file → AreBytes file
    → HasText (with_names (exact_database file))
file_has_text file good bytes =
    has_text_of (exact_database file) (file_name file good) (file_header file bytes)
    (all_writable file good bytes) (count_small file bytes) (file_name_bytes file bytes)

-- ---- what a file is exactly has this database

value_is : (x : Entry ℕ) (e : Entry Blob) (block : Blob) → HasValuesOf x e → entry_data e ≡ block
    → e ≡ entry_with (λ _. block) x
value_is (a_record a id at) (a_record b other_id other) block values is = cc (values.0, values.1)
value_is (a_resource kind id at) (a_resource other_kind other_id other) block values is =
    cc (values.0, values.1)
value_is (a_record a id at) (a_resource kind other_id other) block values is = absurd values
value_is (a_resource kind id at) (a_record a other_id other) block values is = absurd values

none_entry : Entry ℕ
none_entry = a_record 0 0 0

none_data : Entry Blob
none_data = a_record 0 0 None

entries_same : (file : List ℕ) (exact : ExactFile) → IsExactly file exact
    → exact.database.entries ≡ map (exact_entry file) (range_with_len 0 (entry_count_in file))
unfolding database_in
entries_same file exact is =
    let entries : List (Entry Blob) = exact.database.entries in
    let read = length-map-range_with_len (entry_in file) 0 (entry_count_in file) in
    let same = zip_long HasValuesOf (database_in file).entries entries is.entries in
    fill_by_all (exact_entry file) entries (entry_count_in file) none_data (omega arith)
    (λ k inside.
    let values : HasValuesOf (get_or (database_in file).entries k none_entry)
    (get_or entries k none_data) = zip_at HasValuesOf
    (database_in file).entries entries k none_entry none_data is.entries (omega arith) in
    let here = get_or-map-range_with_len (entry_in file) 0
    (entry_count_in file) k k none_entry inside (omega arith) in
    let next : suc (suc k) ≡ 2 + k = omega arith in
    let block : entry_data (get_or entries k none_data) ≡ get_or (blocks_in file) (2 + k) None =
    cc (get_or-map (entry_data {Data = Blob}) entries k none_data None (omega arith), is.blocks) in
    value_is (entry_in file k) (get_or entries k none_data) (get_or (blocks_in file) (2 + k) None)
    (subst (λ x. HasValuesOf x (get_or entries k none_data)) here values) block)

whole : DatabaseHeader → Blob → Blob → List (Entry Blob) → Database Blob
whole header app sort entries =
    record { header = header; app_info = app; sort_info = sort; entries = entries }

same_whole : (h i : DatabaseHeader) (a b c d : Blob) (xs ys : List (Entry Blob)) → h ≡ i → a ≡ b
    → c ≡ d → xs ≡ ys → whole h a c xs ≡ whole i b d ys
same_whole h i a b c d xs ys p q r s = cc

pub database_same : (file : List ℕ) (exact : ExactFile) → IsExactly file exact
    → exact.database ≡ exact_database file
unfolding exact_database whole
database_same file exact is =
    same_whole _ _ _ _ _ _ _ _ is.header (ap (λ bs. get_or bs 0 None) is.blocks)
    (ap (λ bs. get_or bs 1 None) is.blocks) (entries_same file exact is)
