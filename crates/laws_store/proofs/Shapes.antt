-- Bytes in shape spell what is read off them, and what spells a database is in shape.
use Rattle.laws_store.proofs.Words.{◌≡◌, ℕ, zero, suc, ◌+◌, ◌*◌, ◌^◌, ◌<◌, ◌≤◌, Bool, true, false, List, [], ◌∷◌, ◌++◌, length, get_or, take, drop, refl, sym, ap, ◌∙◌, arith, length-drop, append-nil, take_all, take-append-drop, All-map, length-map-range_with_len, flat_map-append, concat, flat_map, range_with_len, big_bytes, big_from-lt, u16_at, u24_at, u32_at, u16_bytes, u24_bytes, u32_bytes, AreBytes, numbered, entry_size, Entry, Database, has_resources, name_field, fields_behind_name, header_bytes, entry_bytes, spelled, HeaderFits, EntryFits, DatabaseFits, IsSpelled, header_in, resources_in, entry_count_in, entry_offset, entry_at, entry_in, database_in, HasShape, big_from}
use Rattle.laws_store.proofs.Numbers.{numbered_more, read_bytes, slices_join, number_in_front, byte_in_front}
use Rattle.laws_store.proofs.Names.{name_read}
use Rattle.laws_store.proofs.Spellings.{spelled_name, next_list_read, resources_read, count_read, length-spelled, size-zero, size-suc}

-- ---- where entries stand

pub offset_below : (resources : Bool) (index count : ℕ) → index < count
    → entry_offset resources (index + 1) ≤ entry_offset resources count
offset_below true index count below = omega arith
offset_below false index count below = omega arith

-- ---- a spelling is in shape

at_least_header : (resources : Bool) (n : ℕ) → 78 ≤ entry_offset resources n
at_least_header false n = omega arith
at_least_header true n = omega arith

shape_of_spelled : (d : Database ℕ) → DatabaseFits d → HasShape (spelled d)
shape_of_spelled d fits =
    let len = length-spelled d fits in
    let least = at_least_header (has_resources d.header.attributes) (length d.entries) in
    let field = spelled_name d fits.name in
    let name = name_read d.header.name (spelled d) fits.name field in
    record {
      header = omega arith;
      name = record { name = rw name fits.name; field = field ∙ sym (ap name_field name) };
      next_list = next_list_read d fits;
      ends = len
          ∙ sym (ap (λ r. entry_offset r (entry_count_in (spelled d))) (resources_read d fits)
          ∙ ap (entry_offset (has_resources d.header.attributes)) (count_read d fits));
    }

pub spelled_shape : (d : Database ℕ) (bytes : List ℕ) → IsSpelled d bytes → HasShape bytes
spelled_shape d bytes s = rw s.bytes_are (shape_of_spelled d s.fits)

-- ---- what is in shape is a spelling

pub length-entries_in : (bytes : List ℕ)
    → length (numbered (entry_in bytes) (entry_count_in bytes)) ≡ entry_count_in bytes
length-entries_in bytes = length-map-range_with_len (entry_in bytes) 0 (entry_count_in bytes)

-- the fields after the name, as they were read
pub fields_back : (d : Database ℕ) (bytes : List ℕ) → AreBytes bytes → 78 ≤ length bytes
    → d ≡ database_in bytes → length d.entries ≡ entry_count_in bytes → u32_at bytes 72 ≡ 0
    → concat (fields_behind_name d) ≡ take 46 (drop 32 bytes)
unfolding database_in header_in u16_at u32_at u16_bytes u32_bytes
fields_back d bytes b inside is count next = rw is (
    let p13 : big_bytes 2 (length (numbered (entry_in bytes) (entry_count_in bytes))) ++ []
    ≡ take 2 (drop 76 bytes) =
    ap (λ n. big_bytes 2 n ++ []) (length-entries_in bytes)
    ∙ number_in_front 2 0 76 bytes [] b (omega arith) refl in
    let p12 : big_bytes 4 0 ++ (big_bytes 2 (length
    (numbered (entry_in bytes) (entry_count_in bytes))) ++ []) ≡ take 6 (drop 72 bytes) =
    ap (λ n. big_bytes 4 n
    ++ (big_bytes 2 (length (numbered (entry_in bytes) (entry_count_in bytes))) ++ [])) (sym next)
    ∙ number_in_front 4 2 72 bytes _ b (omega arith) p13 in
    let p11 = number_in_front 4 6 68 bytes _ b (omega arith) p12 in
    let p10 = number_in_front 4 10 64 bytes _ b (omega arith) p11 in
    let p9 = number_in_front 4 14 60 bytes _ b (omega arith) p10 in
    let p8 = number_in_front 4 18 56 bytes _ b (omega arith) p9 in
    let p7 = number_in_front 4 22 52 bytes _ b (omega arith) p8 in
    let p6 = number_in_front 4 26 48 bytes _ b (omega arith) p7 in
    let p5 = number_in_front 4 30 44 bytes _ b (omega arith) p6 in
    let p4 = number_in_front 4 34 40 bytes _ b (omega arith) p5 in
    let p3 = number_in_front 4 38 36 bytes _ b (omega arith) p4 in
    let p2 = number_in_front 2 42 34 bytes _ b (omega arith) p3 in
    number_in_front 2 44 32 bytes _ b (omega arith) p2)

-- an entry, as it was read
pub entry_back : (resources : Bool) (bytes : List ℕ) (at : ℕ) → AreBytes bytes
    → at + entry_size resources ≤ length bytes
    → entry_bytes (entry_at resources bytes at) ≡ take (entry_size resources) (drop at bytes)
unfolding entry_bytes u16_bytes u24_bytes u32_bytes u16_at u24_at u32_at
entry_back false bytes at b inside =
    let e : at + 4 + 1 ≡ at + 5 = omega arith in
    let p3 : big_bytes 3 (big_from (at + 5) 3 bytes) ≡ take 3 (drop (at + 4 + 1) bytes) =
    read_bytes 3 (at + 5) bytes b (omega arith) ∙ ap (λ k. take 3 (drop k bytes)) (sym e) in
    let p2 = byte_in_front 3 (at + 4) bytes (big_bytes 3 (big_from (at + 5) 3 bytes))
    (omega arith) p3 in
    number_in_front 4 4 at bytes _ b (omega arith) p2
entry_back true bytes at b inside =
    let e : at + 4 + 2 ≡ at + 6 = omega arith in
    let p3 : big_bytes 4 (big_from (at + 6) 4 bytes) ≡ take 4 (drop (at + 4 + 2) bytes) =
    read_bytes 4 (at + 6) bytes b (omega arith) ∙ ap (λ k. take 4 (drop k bytes)) (sym e) in
    let p2 = number_in_front 2 4 (at + 4) bytes _ b (omega arith) p3 in
    number_in_front 4 6 at bytes _ b (omega arith) p2

-- the entries, as they were read
pub entries_upto : (r : Bool) (bytes : List ℕ) (n : ℕ) → AreBytes bytes
    → entry_offset r n ≤ length bytes → flat_map entry_bytes (numbered
    (λ i. entry_at r bytes (entry_offset r i)) n) ≡ take (entry_size r * n) (drop 78 bytes)
entries_upto r bytes zero b inside = ap (λ (k : ℕ). take k (drop 78 bytes)) (sym (size-zero r))
entries_upto r bytes (suc n) b inside =
    let each : ℕ → Entry ℕ = λ i. entry_at r bytes (entry_offset r i) in
    let more : entry_size r * suc n ≡ entry_size r * n + entry_size r =
    (let s = size-suc r n in omega arith) in
    let ih = entries_upto r bytes n b (omega arith) in
    let one = entry_back r bytes (entry_offset r n) b (omega arith) in
    ap (flat_map entry_bytes) (numbered_more each n)
    ∙ flat_map-append entry_bytes (numbered each n) (each n ∷ [])
    ∙ ap (λ (xs : List ℕ). xs ++ flat_map entry_bytes (each n ∷ [])) ih
    ∙ ap (λ xs. take (entry_size r * n) (drop 78 bytes) ++ xs) (append-nil (entry_bytes (each n))
    ∙ one)
    ∙ slices_join _ (entry_size r) 78 bytes ∙ ap (λ k. take k (drop 78 bytes)) (sym more)

entries_back : (bytes : List ℕ) → AreBytes bytes
    → length bytes ≡ entry_offset (resources_in bytes) (entry_count_in bytes)
    → flat_map entry_bytes (numbered (entry_in bytes) (entry_count_in bytes)) ≡ drop 78 bytes
entries_back bytes b ends =
    let l = length-drop 78 bytes in
    entries_upto (resources_in bytes) bytes (entry_count_in bytes) b (omega arith) ∙ take_all
    (entry_size (resources_in bytes) * entry_count_in bytes) (drop 78 bytes) (omega arith)

three_parts : (bytes : List ℕ) → take 32 bytes ++ take 46 (drop 32 bytes) ++ drop 78 bytes ≡ bytes
three_parts bytes =
    ap (λ xs. xs ++ drop 78 bytes) (slices_join 32 46 0 bytes) ∙ take-append-drop 78 bytes

bytes_back : (bytes : List ℕ) → AreBytes bytes → HasShape bytes
    → bytes ≡ spelled (database_in bytes)
unfolding spelled header_bytes database_in header_in
bytes_back bytes b shape =
    let d : Database ℕ = database_in bytes in
    let fields = fields_back d _ b shape.header refl (length-entries_in bytes) shape.next_list in
    let entries = entries_back bytes b shape.ends in
    sym (ap (λ xs. xs ++ concat (fields_behind_name d) ++ flat_map entry_bytes d.entries)
    (sym shape.name.field)
    ∙ ap (λ (xs : List ℕ). take 32 bytes ++ xs ++ flat_map entry_bytes d.entries) fields
    ∙ ap (λ (xs : List ℕ). take 32 bytes ++ take 46 (drop 32 bytes) ++ xs) entries
    ∙ three_parts bytes)

-- ---- what is read has room in its fields

entry_fits : (r : Bool) (bytes : List ℕ) (at : ℕ) → AreBytes bytes
    → EntryFits r (entry_at r bytes at)
unfolding u16_at u24_at u32_at
entry_fits false bytes at b = (b (at + 4), big_from-lt (at + 5) 3 bytes b, big_from-lt at 4 bytes b)
entry_fits true bytes at b =
    (big_from-lt at 4 bytes b, big_from-lt (at + 4) 2 bytes b, big_from-lt (at + 6) 4 bytes b)

pub header_fits : (bytes : List ℕ) → AreBytes bytes → HeaderFits (header_in bytes)
unfolding header_in u16_at u32_at
header_fits bytes b = record {
  attributes = big_from-lt 32 2 bytes b;
  version = big_from-lt 34 2 bytes b;
  creation_date = big_from-lt 36 4 bytes b;
  modification_date = big_from-lt 40 4 bytes b;
  backup_date = big_from-lt 44 4 bytes b;
  modification_number = big_from-lt 48 4 bytes b;
  kind = big_from-lt 60 4 bytes b;
  creator = big_from-lt 64 4 bytes b;
  seed = big_from-lt 68 4 bytes b;
}

few_entries : (bytes : List ℕ) → AreBytes bytes → entry_count_in bytes < 2 ^ 16
unfolding u16_at
few_entries bytes b = big_from-lt 76 2 bytes b

pub database_fits : (bytes : List ℕ) → AreBytes bytes → HasShape bytes
    → DatabaseFits (database_in bytes)
unfolding database_in header_in u32_at
database_fits bytes b shape = record {
  name = shape.name.name;
  header = header_fits bytes b;
  app_info = big_from-lt 52 4 bytes b;
  sort_info = big_from-lt 56 4 bytes b;
  entries = All-map (EntryFits (resources_in bytes)) (entry_in bytes)
      (range_with_len 0 (entry_count_in bytes)) (λ k d below. entry_fits (resources_in bytes) bytes
      (entry_offset (resources_in bytes) (get_or (range_with_len 0 (entry_count_in bytes)) k d)) b);
  entry_count = let e = length-entries_in bytes in let f = few_entries bytes b in omega arith;
}

pub shape_spelled : (bytes : List ℕ) → AreBytes bytes → HasShape bytes
    → IsSpelled (database_in bytes) bytes
shape_spelled bytes b shape =
    record { fits = database_fits bytes b shape; bytes_are = bytes_back bytes b shape }
