-- A file without fault is read as a database, and as no other.
use Rattle.std.proofs.Common.{◌≡◌, ℕ, ◌<◌, ◌≤◌, ◌^◌, Option, List, [], ◌∷◌, length, map, refl, sym, ap, ◌∙◌, arith}
use Rattle.std.specs.List.{AllZip, filter_map}
use Rattle.std.proofs.lemmas.List.FromFn.{length-map-range_with_len}
use Rattle.byteorder.specs.Numbers.{big_from-lt}
use Rattle.heap_model.specs.Bytes.{u16_at, AreBytes}
use Rattle.heap_model.specs.UniqueIds.{seed_in, with_seed}
use Rattle.heap_model.specs.Database.{Database, DatabaseHeader, Entry, a_record, a_resource, entry_data, data_in, header_in, entry_count_in, entry_in, database_in}
use Rattle.heap_model.specs.Store.{unique_id, unique_ids}
use Rattle.heap_model.specs.Files.{HasNoFault, IsReadAs, Reads}
use Rattle.pdb_format.specs.ReadFiles.{database_read}
use Rattle.pdb_format.proofs.ReadFiles.{reads}
use Rattle.pdb_format.proofs.ReadIds.{given_same, ids_exist}

-- ---- it is read as one

few_entries : (file : List ℕ) → AreBytes file → entry_count_in file < 2 ^ 16
unfolding u16_at
few_entries file bytes = big_from-lt 76 2 file bytes

entries_count : (file : List ℕ) → length (database_in file).entries ≡ entry_count_in file
unfolding database_in
entries_count file = length-map-range_with_len (entry_in file) 0 (entry_count_in file)

ids_few : {D : Type 0} (es : List (Entry D)) → length (filter_map unique_id es) ≤ length es
ids_few [] = omega arith
ids_few (a_record attributes id at ∷ es) = let rest = ids_few es in omega arith
ids_few (a_resource kind id at ∷ es) = let rest = ids_few es in omega arith

pub file_read : (file : List ℕ) → AreBytes file → HasNoFault file
    → (database : Database (Option (List ℕ))) × Reads file database
file_read file bytes good =
    let few = few_entries file bytes in
    let count = entries_count file in
    let most = ids_few (database_in file).entries in
    let ids = ids_exist (seed_in (header_in file).seed) (unique_ids (database_in file))
    (omega arith) (omega arith) in (
      database_read file ids.given ids.last_seed,
      reads file ids.given ids.last_seed good ids.are,
    )

-- ---- and as no other

same_record : (a b i j : ℕ) (d e : Option (List ℕ)) → a ≡ b → i ≡ j → d ≡ e
    → a_record a i d ≡ a_record b j e
same_record a b i j d e p q r = cc

same_resource : (a b i j : ℕ) (d e : Option (List ℕ)) → a ≡ b → i ≡ j → d ≡ e
    → a_resource a i d ≡ a_resource b j e
same_resource a b i j d e p q r = cc

same_list : {X : Type 0} (x y : X) (xs ys : List X) → x ≡ y → xs ≡ ys → x ∷ xs ≡ y ∷ ys
same_list x y xs ys p q = cc

same_head : {X : Type 0} (x y : X) (xs ys : List X) → x ∷ xs ≡ y ∷ ys → (x ≡ y) × (xs ≡ ys)
same_head x y xs ys e = (cc, cc)

entries_same : (es : List (Entry ℕ)) (one other : List (Entry (Option (List ℕ))))
    → AllZip IsReadAs es one → AllZip IsReadAs es other
    → filter_map unique_id one ≡ filter_map unique_id other
    → map entry_data one ≡ map entry_data other → one ≡ other
entries_same [] [] [] a b ids blocks = refl
entries_same [] [] (y ∷ other) a b ids blocks = absurd b
entries_same [] (x ∷ one) other a b ids blocks = absurd a
entries_same (e ∷ es) [] other a b ids blocks = absurd a
entries_same (e ∷ es) (x ∷ one) [] a b ids blocks = absurd b
entries_same (a_record attributes id at ∷ es) (a_resource kind x_id x ∷ one) (y ∷ other) a b ids blocks =
    absurd a.0
entries_same (a_record attributes id at ∷ es) (a_record x_attributes x_id x ∷ one) (a_resource kind y_id y ∷ other) a b ids blocks =
    absurd b.0
entries_same (a_record attributes id at ∷ es) (a_record x_attributes x_id x ∷ one) (a_record y_attributes y_id y ∷ other) a b ids blocks =
    let here = same_head x_id y_id (filter_map unique_id one) (filter_map unique_id other) ids in
    let block = same_head x y (map entry_data one) (map entry_data other) blocks in
    same_list _ _ one other
    (same_record x_attributes y_attributes x_id y_id x y (a.0 ∙ sym b.0) here.0 block.0)
    (entries_same es one other a.1 b.1 here.1 block.1)
entries_same (a_resource kind id at ∷ es) (a_record x_attributes x_id x ∷ one) (y ∷ other) a b ids blocks =
    absurd a.0
entries_same (a_resource kind id at ∷ es) (a_resource x_kind x_id x ∷ one) (a_record y_attributes y_id y ∷ other) a b ids blocks =
    absurd b.0
entries_same (a_resource kind id at ∷ es) (a_resource x_kind x_id x ∷ one) (a_resource y_kind y_id y ∷ other) a b ids blocks =
    let block = same_head x y (map entry_data one) (map entry_data other) blocks in
    same_list _ _ one other
    (same_resource x_kind y_kind x_id y_id x y (a.0.0 ∙ sym b.0.0) (a.0.1 ∙ sym b.0.1) block.0)
    (entries_same es one other a.1 b.1 ids block.1)

whole : DatabaseHeader → Option (List ℕ) → Option (List ℕ) → List (Entry (Option (List ℕ)))
    → Database (Option (List ℕ))
whole header app sort entries =
    record { header = header; app_info = app; sort_info = sort; entries = entries }

same_whole : (h g : DatabaseHeader) (a b c d : Option (List ℕ))
    (es fs : List (Entry (Option (List ℕ))))
    → h ≡ g → a ≡ b → c ≡ d → es ≡ fs → whole h a c es ≡ whole g b d fs
same_whole h g a b c d es fs p q r s = cc

databases_same : (one other : Database (Option (List ℕ))) → one.header ≡ other.header
    → one.app_info ≡ other.app_info → one.sort_info ≡ other.sort_info → one.entries ≡ other.entries
    → one ≡ other
unfolding whole
databases_same one other p q r s =
    same_whole one.header other.header one.app_info other.app_info one.sort_info other.sort_info
    one.entries other.entries p q r s

header_with : DatabaseHeader → ℕ → DatabaseHeader
header_with header seed = record header { seed = with_seed header.seed seed }

headers_same : (header one other : DatabaseHeader) (last other_last : ℕ) → last ≡ other_last
    → one ≡ record header { seed = with_seed header.seed last }
    → other ≡ record header { seed = with_seed header.seed other_last } → one ≡ other
unfolding header_with
headers_same header one other last other_last e p q = p ∙ ap (header_with header) e ∙ sym q

pub read_once : (file : List ℕ) (one other : Database (Option (List ℕ))) → Reads file one
    → Reads file other → one ≡ other
read_once file one other a b =
    let given = given_same _ _ _ _ _ _ _ _ a.ids b.ids in
    let all : data_in one ≡ data_in other = a.blocks ∙ sym b.blocks in
    let app = same_head one.app_info other.app_info (one.sort_info ∷ map entry_data one.entries)
    (other.sort_info ∷ map entry_data other.entries) all in
    let sort = same_head one.sort_info other.sort_info (map entry_data one.entries)
    (map entry_data other.entries) app.1 in
    databases_same one other
    (headers_same
    (header_in file) one.header other.header a.last_seed b.last_seed given.1 a.header b.header)
    app.0 sort.0
    (entries_same _ _ _ a.entries b.entries given.0 sort.1)
