-- A file that is taken apart as it stands is packed back.
use Rattle.file_parts.proofs.AllWords.{◌≡◌, ℕ, zero, suc, ◌+◌, ◌≤◌, Some, None, List, [], ◌∷◌, ◌++◌, length, get_or, map, refl, sym, ap, subst, ◌∙◌, arith, ◌==◌, Ok, is_some, option_map_or, ne_eqb, length-map, get_or-append_seam, AreBytes, Database, Entry, a_record, a_resource, IsDatabaseName, data_in, entry_data, entry_with, header_in, name_in, block_bytes, offsets_in, block_count, file_named, not_truncated, offset_count, app_name, entry_name, name_if_data, named_entries, sort_name, with_names, HasText, IsPartName, part_at, ExactFile, IsExactly, exact_of_parts, exact_text, filler_named, text_of_exact, read_exact, Blob, cases_Bool, inl, inr}
use Rattle.file_parts.specs.ExactLaws.{PacksBackExactly, exact_parts}
use Rattle.file_parts.proofs.PackedBack.{u16_small}
use Rattle.file_parts.proofs.PartsBack.{parts_and_more}
use Rattle.file_parts.proofs.ExactFits.{file_has_text, database_same}
use Rattle.file_parts.proofs.ExactNames.{AreNames, after_back, after_fits, after_good}
use Rattle.file_parts.proofs.ExactRanks.{AreThereAs, order_back, order_good, ranks_small}
use Rattle.file_parts.proofs.ExactSpelled.{bytes_are, order_sorted, placed_well, size_is}
use Rattle.file_parts.proofs.ExactTextBack.{IsReadable, text_read}

-- ---- names in place of blocks

some_named : (name : List ℕ) (block : Blob) → is_some (name_if_data name block) ≡ is_some block
some_named name None = refl
some_named name (Some bytes) = refl

entry_some : (name : List ℕ) (e : Entry Blob)
    → is_some (entry_data (entry_with (name_if_data name) e)) ≡ is_some (entry_data e)
entry_some name (a_record a id block) = some_named name block
entry_some name (a_resource kind id block) = some_named name block

entries_some : (index : ℕ) (es : List (Entry Blob)) (k : ℕ)
    → is_some (get_or (map entry_data (named_entries index es)) k None)
    ≡ is_some (get_or (map entry_data es) k None)
entries_some index [] k = refl
entries_some index (e ∷ es) zero = entry_some (entry_name index) e
entries_some index (e ∷ es) (suc k) = entries_some (index + 1) es k

all_some : (d : Database Blob) (r : ℕ)
    → is_some (get_or (data_in (with_names d)) r None) ≡ is_some (get_or (data_in d) r None)
all_some d zero = some_named app_name d.app_info
all_some d (suc zero) = some_named sort_name d.sort_info
all_some d (suc (suc k)) = entries_some 0 d.entries k

length-named : (index : ℕ) (es : List (Entry Blob)) → length (named_entries index es) ≡ length es
length-named index [] = refl
length-named index (e ∷ es) = omega (arith, length-named (index + 1) es)

names_long : (d : Database Blob) → length (data_in (with_names d)) ≡ length (data_in d)
names_long d =
    let names = length-map (named_entries 0 d.entries) (entry_data {Data = Blob}) in
    omega (arith, length-map d.entries (entry_data {Data = Blob}), length-named 0 d.entries)

there_as : (file : List ℕ) (exact : ExactFile) → IsExactly file exact
    → AreThereAs file (data_in (with_names exact.database))
there_as file exact is =
    let long = names_long exact.database in
    let blocks = ap length is.blocks in
    let count = block_count file in
    let offsets = offset_count file in
    record {
      long = omega arith;
      some =
          λ r inside. all_some exact.database r ∙ ap (λ bs. is_some (get_or bs r None)) is.blocks;
    }

-- ---- the text

pub names_are : (file : List ℕ) (exact : ExactFile) → IsExactly file exact
    → AreNames file exact.database.header.name exact.after_name
unfolding header_in
names_are file exact is =
    let name : exact.database.header.name ≡ name_in file = ap (λ h. h.name) is.header in
    record {
      header = (not_truncated file is.good).0;
      named = name;
      valid = subst IsDatabaseName (sym name) (file_named file is.good);
      field = is.name_field;
    }

filler_name_good : (bytes : List ℕ) → IsPartName (filler_named bytes)
filler_name_good bytes = elim (cases_Bool (length bytes == 0)) [
  | inl is ↦ rw is tt
  | inr is ↦ rw is refl
]

few_blocks : (file : List ℕ) → AreBytes file → length (offsets_in file) ≤ 65537
few_blocks file bytes = omega (arith, offset_count file, u16_small file 76 bytes)

readable : (file : List ℕ) (exact : ExactFile) → AreBytes file → IsExactly file exact
    → IsReadable (text_of_exact exact)
readable file exact bytes is =
    let sorted = order_sorted file exact bytes is in
    let names = names_are file exact is in
    record {
      database = subst (λ d. HasText (with_names d)) (sym (database_same file exact is))
          (file_has_text file is.good bytes);
      after = after_good file exact.database.header.name exact.after_name bytes names;
      filler = filler_name_good exact.filler;
      small = ranks_small file exact.order sorted (few_blocks file bytes);
      fits = λ n. after_fits file exact.database.header.name exact.after_name n names;
      good = λ n. order_good file exact.order (data_in (with_names exact.database)) n sorted
          (there_as file exact is);
    }

pub text_back : (file : List ℕ) (exact : ExactFile) → AreBytes file → IsExactly file exact
    → read_exact (exact_text (text_of_exact exact)) ≡ Some (Ok (text_of_exact exact))
text_back file exact bytes is = text_read (text_of_exact exact) (readable file exact bytes is)

-- ---- the parts

unfoldable pub exact_whole : Database Blob → List ℕ → List ℕ → List ℕ → ExactFile
exact_whole database after filler order =
    record { database = database; after_name = after; filler = filler; order = order }

pub same_exact : (c e : Database Blob) (m n p q r s : List ℕ) → c ≡ e → m ≡ n → p ≡ q → r ≡ s
    → exact_whole c m p r ≡ exact_whole e n q s
same_exact c e m n p q r s a b f g = cc

filler_back : (bytes : List ℕ) (blocks : List (List ℕ)) (count : ℕ) → length blocks ≡ count
    → option_map_or (λ name. part_at (blocks ++ bytes ∷ []) count) (filler_named bytes) [] ≡ bytes
filler_back [] blocks count long = refl
filler_back (b ∷ bytes) blocks count long =
    let some = ne_eqb (length (b ∷ bytes)) 0 (λ e. (omega arith)) in
    rw some (ap (λ n. part_at (blocks ++ (b ∷ bytes) ∷ []) n) (sym long)
    ∙ get_or-append_seam blocks (b ∷ bytes) [] [])

pub parts_back : (file : List ℕ) (exact : ExactFile) → AreBytes file → IsExactly file exact
    → exact_of_parts (text_of_exact exact) (exact_parts exact) ≡ exact
unfolding exact_whole
parts_back file exact bytes is =
    let d : Database Blob = exact.database in
    let long = length-map (data_in d) block_bytes in
    let count = names_long d in
    same_exact _ _ _ _ _ _ _ _ (parts_and_more d (exact.filler ∷ []))
    (after_back file d.header.name exact.after_name (names_are file exact is))
    (filler_back exact.filler (map block_bytes (data_in d)) (length (data_in (with_names d)))
    (omega arith)) (order_back file exact.order (data_in (with_names d))
    (order_sorted file exact bytes is) (there_as file exact is))

-- ---- all of it

pub packs_exactly : (file : List ℕ) (exact : ExactFile) → AreBytes file → IsExactly file exact
    → PacksBackExactly file exact
packs_exactly file exact bytes is = record {
  text = text_back file exact bytes is;
  parts = parts_back file exact bytes is;
  spelled = record {
    bytes = bytes_are file exact bytes is;
    size = size_is file exact bytes is;
    placed = placed_well file exact bytes is;
  };
}
