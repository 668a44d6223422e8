-- How often databases name something, as sums over the databases and over the entries; so what an
-- edit of one of them changes is one term.
use Rattle.laws_store.proofs.Words.{◌≡◌, ◌≢◌, ℕ, ◌+◌, ◌<◌, ◌≤◌, List, [], ◌∷◌, length, map, get_or, set, refl, ap, arith, inl, inr, cases_lt, All-contains, sum_by-cons, sum_by-set, sum_by-remove, sum_by, flat_map, filter_map, remove, same, times, Database, Entry, a_record, a_resource, entry_data, data_in, StoredDatabase, named_by, unique_id, unique_ids, HasUniqueIds}
use Rattle.laws_store.proofs.Times.{times-cons, times-append, contained-times, times-all, distinct-times, times-distinct}

pub times-flat_map : {X : Type 0} (q : ℕ) (f : X → List ℕ) (xs : List X)
    → times q (flat_map f xs) ≡ sum_by (λ x. times q (f x)) xs
times-flat_map q f [] = refl
times-flat_map q f (x ∷ xs) =
    let ih = times-flat_map q f xs in
    let both = times-append q (f x) (flat_map f xs) in
    let more = sum_by-cons (λ y. times q (f y)) x xs in
    omega arith

pub times-map : {X : Type 0} (q : ℕ) (f : X → ℕ) (xs : List X)
    → times q (map f xs) ≡ sum_by (λ x. same (f x) q) xs
times-map q f [] = refl
times-map q f (x ∷ xs) =
    let ih = times-map q f xs in
    let both = times-cons q (f x) (map f xs) in
    let more = sum_by-cons (λ y. same (f y) q) x xs in
    omega arith

-- ---- what databases name

pub times-named : (q : ℕ) (stored : List StoredDatabase)
    → times q (named_by stored) ≡ sum_by (λ one. times q (data_in one.database)) stored
times-named q stored = times-flat_map q (λ (one : StoredDatabase). data_in one.database) stored

pub times-data : (q : ℕ) (database : Database ℕ)
    → times q (data_in database) ≡ same database.app_info q
    + (same database.sort_info q + sum_by (λ entry. same (entry_data entry) q) database.entries)
times-data q d =
    let one = times-cons q d.app_info (d.sort_info ∷ map entry_data d.entries) in
    let two = times-cons q d.sort_info (map entry_data d.entries) in
    let rest = times-map q entry_data d.entries in
    omega arith

-- a database replaced, put in, taken out
pub named-set : (q : ℕ) (stored : List StoredDatabase) (i : ℕ) (one d : StoredDatabase)
    → i < length stored → times q (named_by (set stored i one)) + times q (data_in
    (get_or stored i d).database) ≡ times q (named_by stored) + times q (data_in one.database)
named-set q stored i one d below =
    let new = times-named q (set stored i one) in
    let old = times-named q stored in
    let sums = sum_by-set (λ s. times q (data_in s.database)) stored i one d below in
    omega arith

pub named-remove : (q : ℕ) (stored : List StoredDatabase) (i : ℕ) (d : StoredDatabase)
    → i < length stored → times q (named_by (remove stored i))
    + times q (data_in (get_or stored i d).database) ≡ times q (named_by stored)
named-remove q stored i d below =
    let new = times-named q (remove stored i) in
    let old = times-named q stored in
    let sums = sum_by-remove (λ s. times q (data_in s.database)) stored i d below in
    omega arith

-- ---- IDs

-- 1 where an entry has this ID
unfoldable pub has_id : ℕ → Entry ℕ → ℕ
has_id q (a_record attributes id «data») = same id q
has_id q (a_resource kind id «data») = 0

ids_counted : (q : ℕ) (entries : List (Entry ℕ))
    → times q (filter_map unique_id entries) ≡ sum_by (has_id q) entries
unfolding has_id
ids_counted q [] = refl
ids_counted q (a_record attributes id slot ∷ entries) =
    let ih = ids_counted q entries in
    let one = times-cons q id (filter_map unique_id entries) in
    let more = sum_by-cons (has_id q) (a_record attributes id slot) entries in
    omega arith
ids_counted q (a_resource kind id slot ∷ entries) =
    let ih = ids_counted q entries in
    let none : times q (filter_map unique_id (a_resource kind id slot ∷ entries))
    ≡ times q (filter_map unique_id entries) = refl in
    let more = sum_by-cons (has_id q) (a_resource kind id slot) entries in
    omega arith

pub times-ids : (q : ℕ) (database : Database ℕ)
    → times q (unique_ids database) ≡ sum_by (has_id q) database.entries
times-ids q d = ids_counted q d.entries

-- IDs are unique where none is 0 and each is that of one entry at most
pub unique_counts : (database : Database ℕ) → HasUniqueIds database
    → (times 0 (unique_ids database) ≡ 0) × ((q : ℕ) → times q (unique_ids database) ≤ 1)
unique_counts d u = (
  elim (cases_lt 0 (times 0 (unique_ids d))) [
    | inl some ↦ absurd (All-contains (λ id. id ≢ 0) (unique_ids d) 0 u.none_zero
        (contained-times 0 (unique_ids d) some) refl)
    | inr none ↦ omega arith
  ],
  distinct-times (unique_ids d) u.distinct,
)

pub counts_unique : (database : Database ℕ) → times 0 (unique_ids database) ≡ 0
    → ((q : ℕ) → times q (unique_ids database) ≤ 1) → HasUniqueIds database
counts_unique d none once = record {
  none_zero = times-all (λ id. id ≢ 0) (unique_ids d)
      (λ q some z. (let e = ap (λ id. times id (unique_ids d)) z in omega arith));
  distinct = times-distinct (unique_ids d) once;
}
