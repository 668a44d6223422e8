-- A whole database that was made is a step of the store: it comes last, with its data.
use Rattle.palm_store.proofs.Words.{◌≡◌, ◌≢◌, ℕ, ◌+◌, ◌<◌, Bool, List, [], ◌∷◌, ◌++◌, length, map, drop, Some, None, refl, ap, ◌∙◌, arith, inl, inr, All-nil, All-cons, All-head, All-tail, All, AllZip, filter_map, ChunkMap, held, times, callers_map, data_in, entry_data, spelled, has_resources, DatabaseFits, entry_offset, StoredDatabase, databases, most_databases, unique_id, HasUniqueIds, Accepted, store_of, NamesData, IsTaken, DbInfo, Appends, has_databases, has_store, BlockSizes, WholeEntry, size_of_data, data_sizes, CanCome, id_asked, CanBeWhole, entries_named, whole_database, whole_size, IsGained, MakesWhole, ListsWhole}
use Rattle.laws_store.proofs.Listed as listed
use Rattle.palm_store.specs.WholeDatabases.{entry_named}
use Rattle.palm_store.specs.declared.entries.infos.EntryInfo.TheVariants as infos
use Rattle.palm_store.proofs.Creation.{appends_gained, callers_gain}
pub use Rattle.palm_store.proofs.Creation.{few_listed}

-- what the database has data for
named_entries : (entries : List WholeEntry) (names : List ℕ) → length names ≡ length entries → map entry_data (entries_named entries names) ≡ names
named_entries [] [] long = refl
named_entries [] (name ∷ names) long = absurd (omega arith)
named_entries (one ∷ entries) [] long = absurd (omega arith)
named_entries ((infos.Record attributes id, size) ∷ entries) (name ∷ names) long = ap (λ (more : List ℕ). name ∷ more) (named_entries entries names (omega arith))
named_entries ((infos.Resource kind id, size) ∷ entries) (name ∷ names) long = ap (λ (more : List ℕ). name ∷ more) (named_entries entries names (omega arith))

pub whole_data : (info : DbInfo) (entries : List WholeEntry) (names : List ℕ) → length names ≡ 2 + length entries → data_in (whole_database info entries names) ≡ names
whole_data info entries [] long = absurd (omega arith)
whole_data info entries (one ∷ []) long = absurd (omega arith)
whole_data info entries (one ∷ two ∷ names) long = ap (λ (more : List ℕ). one ∷ two ∷ more) (named_entries entries names (omega arith))

one_names_data : (old new : ChunkMap) (resources : Bool) (one : WholeEntry) (name : ℕ) → IsGained old new (size_of_data one) name → CanCome resources one → NamesData (entry_named one name)
one_names_data old new resources (infos.Record attributes id, None) name is can = λ none. can.3 refl
one_names_data old new resources (infos.Record attributes id, Some size) name is can = λ none. (let some = is.0 in absurd (omega arith))
one_names_data old new resources (infos.Resource kind id, None) name is can = (let some = can.1 in absurd cc)
one_names_data old new resources (infos.Resource kind id, Some size) name is can = is.0

names_data : (old new : ChunkMap) (resources : Bool) (entries : List WholeEntry) (names : List ℕ) → AllZip (IsGained old new) (map size_of_data entries) names → All (CanCome resources) entries → All NamesData (entries_named entries names)
names_data old new resources [] names zip all = All-nil NamesData
names_data old new resources (one ∷ entries) [] zip all = absurd zip
names_data old new resources (one ∷ entries) (name ∷ names) zip all =
    All-cons NamesData (entry_named one name) (entries_named entries names) (one_names_data old new resources one name zip.0 (All-head (CanCome resources) one entries all))
    (names_data old new resources entries names zip.1 (All-tail (CanCome resources) one entries all))

whole_names_data : (old new : ChunkMap) (info : DbInfo) (blocks : BlockSizes) (entries : List WholeEntry) (names : List ℕ) → AllZip (IsGained old new) (data_sizes blocks entries) names → CanBeWhole info entries → All NamesData (entries_named entries (drop 2 names))
whole_names_data old new info blocks entries [] zip can = absurd zip
whole_names_data old new info blocks entries (one ∷ []) zip can = absurd zip.1
whole_names_data old new info blocks entries (one ∷ two ∷ names) zip can = names_data old new (has_resources info.attributes) entries names zip.1.1 can.each

-- unique IDs
same_ids : (entries : List WholeEntry) (names : List ℕ) → filter_map unique_id (entries_named entries names) ≡ filter_map id_asked entries
same_ids [] names = refl
same_ids ((infos.Record attributes id, size) ∷ entries) [] = ap (λ (ids : List ℕ). id ∷ ids) (same_ids entries [])
same_ids ((infos.Resource kind id, size) ∷ entries) [] = same_ids entries []
same_ids ((infos.Record attributes id, size) ∷ entries) (name ∷ names) = ap (λ (ids : List ℕ). id ∷ ids) (same_ids entries names)
same_ids ((infos.Resource kind id, size) ∷ entries) (name ∷ names) = same_ids entries names

ids_some : (resources : Bool) (entries : List WholeEntry) → All (CanCome resources) entries → All (λ id. id ≢ 0) (filter_map id_asked entries)
ids_some resources [] all = All-nil (λ id. id ≢ 0)
ids_some resources ((infos.Record attributes id, size) ∷ entries) all =
    All-cons (λ id. id ≢ 0) id (filter_map id_asked entries) (λ e. (let some = (All-head (CanCome resources) (infos.Record attributes id, size) entries all).1 in omega arith)) (ids_some resources entries (All-tail (CanCome resources) (infos.Record attributes id, size) entries all))
ids_some resources ((infos.Resource kind id, size) ∷ entries) all = ids_some resources entries (All-tail (CanCome resources) (infos.Resource kind id, size) entries all)

whole_ids : (info : DbInfo) (entries : List WholeEntry) (names : List ℕ) → CanBeWhole info entries → HasUniqueIds (whole_database info entries names)
whole_ids info entries names can =
    let ids = same_ids entries (drop 2 names) in
    record { none_zero = rw ids (ids_some (has_resources info.attributes) entries can.each); distinct = rw ids can.ids }

-- it comes after the others
abbrev stored : ℕ → DbInfo → List WholeEntry → List ℕ → StoredDatabase
stored db info entries names = record { db = db; database = whole_database info entries names }

pub appends_whole : (old new : List ℕ) (db : ℕ) (info : DbInfo) (blocks : BlockSizes) (entries : List WholeEntry) (names : List ℕ) → Accepted old → ListsWhole old new db (spelled (whole_database info entries names)) (data_sizes blocks entries) names
    → DatabaseFits (whole_database info entries names) → CanBeWhole info entries → length names ≡ 2 + length entries → length (databases old) < most_databases → (IsTaken (store_of old) 0 info.name → ⊥) → Appends old new (databases old) (stored db info entries names)
appends_whole old new db info blocks entries names a l fits can many few free =
    appends_gained old new (stored db info entries names) (data_sizes blocks entries) names a l fits (whole_names_data (held old) (held new) info blocks entries names l.each can) (whole_ids info entries names can)
    (λ q some. ap (times q) (whole_data info entries names many)) few free

-- the step
pub whole_made : (old new : List ℕ) (db : ℕ) (info : DbInfo) (blocks : BlockSizes) (entries : List WholeEntry) (names : List ℕ) → Accepted old → ListsWhole old new db (spelled (whole_database info entries names)) (data_sizes blocks entries) names
    → DatabaseFits (whole_database info entries names) → CanBeWhole info entries → length names ≡ 2 + length entries → length (databases old) < most_databases → (IsTaken (store_of old) 0 info.name → ⊥) → MakesWhole old new db info blocks entries names
unfolding store_of
whole_made old new db info blocks entries names a l fits can many few free =
    let p = appends_whole old new db info blocks entries names a l fits can many few free in
    let has = listed.appended old new (databases old) (stored db info entries names) (has_databases old a) p in
    let store = has_store new (callers_map new) (databases old ++ stored db info entries names ∷ []) has (λ name. refl) in
    record {
      accepted = store.accepted;
      gains = record {
        databases = store.same.databases;
        map = callers_gain old new db (spelled (whole_database info entries names)) (data_sizes blocks entries) names a.heap l;
      };
      fresh = l.fresh;
      len = l.len;
      tables = l.tables;
      directory = elim l.directory [ inl stays ↦ inl stays | inr begins ↦ inr begins.0 ];
      still = l.still;
    }

-- what the call has found
pub size_asked : (info : DbInfo) (entries : List WholeEntry) (resources : Bool) (size : ℕ) → resources ≡ has_resources info.attributes → info.entry_count ≡ length entries → size ≡ entry_offset resources info.entry_count → size ≡ whole_size info entries
size_asked info entries resources size kind count is = is ∙ ap (λ (r : Bool). entry_offset r info.entry_count) kind ∙ ap (λ (n : ℕ). entry_offset (has_resources info.attributes) n) count
