-- A file without fault is exactly its header, its entries, its blocks and the bytes between them.
use Rattle.file_parts.proofs.AllWords.{◌≡◌, ℕ, zero, suc, ◌+◌, ◌<◌, None, List, length, get_or, take, map, refl, sym, subst, arith, ◌==◌, not, AllZip, prefix_len, range_with_len, ext_get_or, get_or-map, length-map, length-take, take-append-drop, take-take, get_or-map-range_with_len, length-map-range_with_len, prefix_len-le-length, Entry, a_record, a_resource, data_in, database_in, entry_count_in, entry_data, entry_in, entry_with, header_in, name_in, HasNoFault, blocks_in, offsets_in, block_count, numbered_zip, HasValuesOf, IsExactly, IsOrderOf, exact_database, exact_entry, exact_in, Blob}
use Rattle.std.specs.Prelude.{Bool}
use Rattle.file_parts.proofs.ExactHeads.{data_with}

-- ---- the name

-- the name comes first in its field
pub name_front : (file : List ℕ) → take (length (name_in file)) (take 32 file) ≡ name_in file
unfolding name_in
name_front file =
    let p : ℕ → Bool = λ byte. not (byte == 0) in
    let front : List ℕ = take 31 file in
    let n : ℕ = prefix_len p front in
    let most = prefix_len-le-length p front in
    let room = length-take 31 file in
    let taken = length-take n front in
    let size : length (take n front) ≡ n = omega arith in
    cc (take-take n 32 file (omega arith), take-take n 31 file (omega arith))

-- ---- the entries

abbrev entries_of : List ℕ → List (Entry Blob)
entries_of file = map (exact_entry file) (range_with_len 0 (entry_count_in file))

pub entries_long : (file : List ℕ) → length (entries_of file) ≡ entry_count_in file
entries_long file = length-map-range_with_len (exact_entry file) 0 (entry_count_in file)

pub exact_entry_is : (file : List ℕ) (k : ℕ) (e : Entry Blob) → k < entry_count_in file
    → get_or (entries_of file) k e ≡ exact_entry file k
exact_entry_is file k e inside =
    get_or-map-range_with_len (exact_entry file) 0 (entry_count_in file) k k e inside (omega arith)

values_of : (entry : Entry ℕ) (block : Blob) → HasValuesOf entry (entry_with (λ _. block) entry)
values_of (a_record a id at) block = (refl, refl)
values_of (a_resource kind id at) block = (refl, refl)

all_values : (file : List ℕ) → AllZip HasValuesOf (database_in file).entries (entries_of file)
unfolding database_in
all_values file = numbered_zip HasValuesOf (entry_in file) (entries_of file) 0 (entry_count_in file)
    (entries_long file) (λ k e inside.
    let same : 0 + k ≡ k = omega arith in
    subst (λ n. HasValuesOf (entry_in file n) (get_or (entries_of file) k e)) (sym same)
    (subst (HasValuesOf (entry_in file k)) (sym (exact_entry_is file k e inside))
    (values_of (entry_in file k) (get_or (blocks_in file) (2 + k) None))))

-- ---- the blocks

block_exact : (file : List ℕ) (rank : ℕ) → rank < length (blocks_in file)
    → get_or (data_in (exact_database file)) rank None ≡ get_or (blocks_in file) rank None
unfolding exact_database
block_exact file zero inside = refl
block_exact file (suc zero) inside = refl
block_exact file (suc (suc k)) inside =
    let count = block_count file in
    let long = entries_long file in
    let next : 2 + k ≡ suc (suc k) = omega arith in
    let some : Entry Blob = a_record 0 0 None in
    let first = get_or-map (entry_data {Data = Blob}) (entries_of file) k some None (omega arith) in
    let second = exact_entry_is file k some (omega arith) in
    cc (data_with (entry_in file k) (get_or (blocks_in file) (2 + k) None))

pub blocks_exact : (file : List ℕ) → data_in (exact_database file) ≡ blocks_in file
unfolding exact_database
blocks_exact file =
    let count = block_count file in
    let long = entries_long file in
    let data_long = length-map (entries_of file) (entry_data {Data = Blob}) in
    ext_get_or None (data_in (exact_database file)) (blocks_in file) (omega arith)
    (λ rank inside. block_exact file rank (omega arith))

-- ---- all of it

pub is_exactly : (file ranks : List ℕ) → HasNoFault file → IsOrderOf (offsets_in file) ranks
    → IsExactly file (exact_in file ranks)
unfolding exact_database header_in
is_exactly file ranks good order = record {
  good = good;
  header = refl;
  name_field = cc (name_front file, take-append-drop (length (name_in file)) (take 32 file));
  entries = all_values file;
  blocks = blocks_exact file;
  filler = refl;
  order = order;
}
