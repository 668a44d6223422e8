-- Calls on a category take the records in order: the store after the first `count` of them.
use Rattle.record_db.proofs.Words.{◌≡◌, ℕ, zero, suc, ◌+◌, ◌-◌, ◌<◌, ◌≤◌, ◌++◌, Bool, true, false, List, [], ◌∷◌, length, map, take, get_or, Option, Some, None, refl, sym, ap, subst, ◌∙◌, arith, inl, inr, cases_eq, eq-eqb, ne_eqb, map-append, take_all, ◌==◌, if◌then◌else◌, slice_get, filter, IsSome, find, LiveChunk, ChunkMap, times, Of, IsLocked, Entry, a_record, entry_data, StoredDatabase, Store, Accepted, store_of, all_gone, with_changed, with_number, entries_of, entries_in, holds_resources, resources_under, entry_under, OfEntry, data_of_entry, data_under, replaced, with_entries, with_chunks, data_freed, LeavesStore, MakesNone, HasLockedOf, category_deleted, is_of, IsOf, data_of_category, deleted_category, Db, HasLockedData, IsFirst, NoneBehind, Here, with_list, changed_alike, changed_behind, changed_nothing, found_changed, left_after, left_as, itself}
use Rattle.std.proofs.lemmas.Bool.{false_from_ne_true}
use Rattle.std.proofs.lemmas.List.Elements.{filter-append}
use Rattle.std.proofs.lemmas.List.Sums.{sum_by-append}
use Rattle.std.proofs.lemmas.Option.{slice_get-get_or, slice_get_within}
use Rattle.record_db.proofs.OneRecord.{listed_if, one_deleted, none_deleted, deleted_one}
use Rattle.record_db.proofs.Turns.{first_changed, none_changed, all_changed, later_kept, next_changed}

-- ---- the names of the data of the records that were passed

front_more : (count : ℕ) (entries : List (Entry ℕ)) → take (suc count) entries ≡ take count entries ++ listed_if (slice_get entries count)
front_more zero [] = refl
front_more zero (entry ∷ entries) = refl
front_more (suc count) [] = refl
front_more (suc count) (entry ∷ entries) = ap (λ (front : List (Entry ℕ)). entry ∷ front) (front_more count entries)

-- those of one entry more
data_more : (category count : ℕ) (entries : List (Entry ℕ)) → data_of_category category (take (suc count) entries) ≡ data_of_category category (take count entries) ++ data_of_category category (listed_if (slice_get entries count))
data_more category count entries =
    let more : List (Entry ℕ) = listed_if (slice_get entries count) in
    ap (data_of_category category) (front_more count entries)
    ∙ ap (map entry_data) (filter-append (is_of category) (take count entries) more)
    ∙ map-append entry_data (filter (is_of category) (take count entries)) (filter (is_of category) more)

-- a map without some names, and then without others
gone_twice : (chunks : ChunkMap) (names more : List ℕ) (name : ℕ) → all_gone (all_gone chunks names) more name ≡ all_gone chunks (names ++ more) name
gone_twice chunks names more name =
    let sum : times name (names ++ more) ≡ times name names + times name more = sum_by-append (λ (other : ℕ). if other == name then 1 else 0) names more in
    elim (cases_eq (times name more) 0) [
      | inl none ↦ rw (eq-eqb (times name more) 0 none, (let same : times name (names ++ more) ≡ times name names = omega (arith, sum, none) in same)) refl
      | inr some ↦ rw (ne_eqb (times name more) 0 some, ne_eqb (times name (names ++ more)) 0 (λ e. some (omega (arith, sum, e)))) refl
    ]

-- ---- the store in between

-- the store after the first `count` entries were passed, and those of the category deleted
abbrev deleted_so_far : Store → Db → List (Entry ℕ) → ℕ → ℕ → Store
deleted_so_far store db entries category count =
    with_chunks (with_entries store db (first_changed (deleted_category category) count)) (all_gone store.map (data_of_category category (take count entries)))

-- the records of the category among the first `count` entries are deleted, and nothing else changed
pub record DeletedTo (old mid : List ℕ) (db : Db) (category count : ℕ) : Type 0 where
  pub accepted : Accepted old
  pub here : Here old db.0
  pub leaves : LeavesStore old mid (deleted_so_far (store_of old) db here.one.database.entries category count)

count_here : {old : List ℕ} {db : Db} (h : Here old db.0) → length (entries_in (store_of old) db) ≡ length h.one.database.entries
count_here h = ap (λ (x : Option StoredDatabase). length (entries_of x)) h.found

-- none of them yet
pub deleted_none : (image : List ℕ) (db : Db) (category : ℕ) (h : Here image db.0) → Accepted image → DeletedTo image image db category 0
deleted_none image db category h a = record {
  accepted = a;
  here = h;
  leaves = itself image _ a (record { map = λ name. refl; databases = sym (changed_nothing image db.0 (first_changed (deleted_category category) 0) h a (none_changed (deleted_category category) h.one.database.entries)) });
}

number_mid : {old mid : List ℕ} {db : Db} {category count : ℕ} (some : DeletedTo old mid db category count)
    → with_number (store_of mid) db.0 ≡ Some (record { db = db.0; database = with_list (first_changed (deleted_category category) count) some.here.one.database })
number_mid {old} {db = db} {category} {count} some =
    ap (λ (stored : List StoredDatabase). find (λ other. other.db == db.0) stored) some.leaves.same.databases
    ∙ found_changed db.0 (with_list (first_changed (deleted_category category) count)) (store_of old).databases some.here.one some.here.found

number_there : {old mid : List ℕ} {db : Db} {category count : ℕ} → DeletedTo old mid db category count → IsSome (with_number (store_of mid) db.0)
number_there some = subst (λ (x : Option StoredDatabase). IsSome x) (sym (number_mid some)) refl

pub kind_there : {old mid : List ℕ} {db : Db} {category count : ℕ} → DeletedTo old mid db category count → resources_under (store_of mid) db ≡ resources_under (store_of old) db
kind_there some = ap holds_resources (number_mid some) ∙ sym (ap holds_resources some.here.found)

-- the entries after them are as they were
entry_mid : {old mid : List ℕ} {db : Db} {category count : ℕ} (at : ℕ) (some : DeletedTo old mid db category count) → count ≤ at → entry_under (store_of mid) db at ≡ slice_get some.here.one.database.entries at
entry_mid {category = category} {count} at some order =
    ap (λ (x : Option StoredDatabase). slice_get (entries_of x) at) (number_mid some) ∙ later_kept (deleted_category category) count at some.here.one.database.entries order

-- ---- one record more

deleted_turn : {old mid new : List ℕ} {db : Db} {category count : ℕ} → DeletedTo old mid db category count → count < length (entries_in (store_of old) db)
    → LeavesStore mid new (one_deleted (store_of mid) db count category) → MakesNone mid new → DeletedTo old new db category (count + 1)
deleted_turn {old} {mid} {new} {db} {category} {count} some below two none =
    let entries : List (Entry ℕ) = some.here.one.database.entries in
    let change : Entry ℕ → Entry ℕ = deleted_category category in
    let now : List ℕ = data_of_category category (listed_if (slice_get entries count)) in
    let more : suc count ≡ count + 1 = omega arith in
    subst (DeletedTo old new db category) more (record {
      accepted = some.accepted;
      here = some.here;
      leaves = left_after old mid new _ _ _ some.leaves two (record {
        map = λ name.
            (ap (λ (x : Option (Entry ℕ)). all_gone (store_of mid).map (data_of_category category (listed_if x)) name) (entry_mid count some (omega arith))
            ∙ ap (λ (x : Option LiveChunk). if times name now == 0 then x else None) (some.leaves.same.map name)
            ∙ gone_twice (store_of old).map (data_of_category category (take count entries)) now name
            ∙ ap (λ (names : List ℕ). all_gone (store_of old).map names name) (sym (data_more category count entries)));
        databases = ap (λ (stored : List StoredDatabase). with_changed stored db.0 (with_list (λ es. replaced es count change))) some.leaves.same.databases
            ∙ changed_behind old db.0 (first_changed change count) (λ es. replaced es count change) (first_changed change (suc count)) some.here some.accepted (next_changed change count entries (omega (arith, below, count_here some.here)));
      }) none;
    })

-- what is left of a map
some_left : (left : Bool) (x : Option LiveChunk) → Of (if left then x else None) IsLocked → Of x IsLocked
some_left true x p = p
some_left false x p = absurd p

-- the next one has no locked data, if none of the category had any at first
pub next_unlocked : {old mid : List ℕ} {db : Db} {category count : ℕ} → DeletedTo old mid db category count → (HasLockedOf (store_of old) db category → ⊥)
    → OfEntry (entry_under (store_of mid) db count) (IsOf category) → HasLockedData mid db count → ⊥
next_unlocked {old} {mid} {db} {category} {count} some none of locked =
    let same : entry_under (store_of mid) db count ≡ entry_under (store_of old) db count = entry_mid count some (omega arith) ∙ sym (ap (λ (x : Option StoredDatabase). slice_get (entries_of x) count) some.here.found) in
    let slot : ℕ = data_under (store_of old) db count in
    let here : Of ((store_of mid).map slot) IsLocked = subst (λ (n : ℕ). Of ((store_of mid).map n) IsLocked) (ap data_of_entry same) locked in
    none (count, subst (λ (x : Option (Entry ℕ)). OfEntry x (IsOf category)) same of, some_left _ ((store_of old).map slot) (subst (λ (x : Option LiveChunk). Of x IsLocked) (some.leaves.same.map slot) here))

-- ---- those between two of the category

-- an entry that isn't of the category
one_passed : {old mid : List ℕ} {db : Db} {category from : ℕ} → DeletedTo old mid db category from → from < length (entries_in (store_of old) db) → (OfEntry (entry_under (store_of mid) db from) (IsOf category) → ⊥) → DeletedTo old mid db category (from + 1)
one_passed {mid = mid} {db} {category} {from} some below other =
    let entries : List (Entry ℕ) = some.here.one.database.entries in
    let entry : Entry ℕ = get_or entries from (a_record 0 0 0) in
    let e : entry_under (store_of mid) db from ≡ Some entry = entry_mid from some (omega arith) ∙ slice_get-get_or entries from (a_record 0 0 0) (omega (arith, below, count_here some.here)) in
    let isnt = false_from_ne_true (is_of category entry) (subst (λ (x : Option (Entry ℕ)). OfEntry x (IsOf category) → ⊥) e other) in
    deleted_turn some below (none_deleted mid db from category entry some.leaves.accepted (number_there some) e isnt) (λ name there. there)

-- `more` entries that are not of the category
passed : {old mid : List ℕ} {db : Db} {category : ℕ} (from more : ℕ) → DeletedTo old mid db category from → from + more ≤ length (entries_in (store_of old) db)
    → ((index : ℕ) → from ≤ index → index < from + more → OfEntry (entry_under (store_of mid) db index) (IsOf category) → ⊥) → DeletedTo old mid db category (from + more)
passed {old} {mid} {db} {category} from zero some within others = subst (DeletedTo old mid db category) (let same : from ≡ from + 0 = omega arith in same) some
passed {old} {mid} {db} {category} from (suc more) some within others =
    subst (DeletedTo old mid db category) (let same : from + 1 + more ≡ from + suc more = omega arith in same)
    (passed (from + 1) more (one_passed some (omega (arith, within)) (others from (omega arith) (omega arith))) (omega (arith, within)) (λ index order below. others index (omega (arith, order)) (omega (arith, below))))

-- an entry of which something is said is there
of_within : (entries : List (Entry ℕ)) (index : ℕ) (P : Entry ℕ → Type 0) → OfEntry (slice_get entries index) P → (entry : Entry ℕ) × (slice_get entries index ≡ Some entry) × P entry
of_within [] index P of = absurd of
of_within (entry ∷ entries) zero P of = (entry, refl, of)
of_within (entry ∷ entries) (suc index) P of = of_within entries index P of

pub within_some : (entries : List (Entry ℕ)) (index : ℕ) (P : Entry ℕ → Type 0) → OfEntry (slice_get entries index) P → index < length entries
within_some entries index P of = (let there = of_within entries index P of in slice_get_within entries index there.0 there.1)

-- the first one of the category from there on
pub first_inside : {old mid : List ℕ} {db : Db} {category from index : ℕ} → DeletedTo old mid db category from → IsFirst (entries_in (store_of mid) db) from (IsOf category) index → index < length (entries_in (store_of old) db)
first_inside {mid = mid} {db} {category} {index = index} some first =
    let there = of_within (entries_in (store_of mid) db) index (IsOf category) first.here.1 in
    let inside = slice_get_within some.here.one.database.entries index there.0 (sym (entry_mid index some first.here.0) ∙ there.1) in
    omega (arith, inside, count_here some.here)

pub passed_to : {old mid : List ℕ} {db : Db} {category from index : ℕ} → DeletedTo old mid db category from → IsFirst (entries_in (store_of mid) db) from (IsOf category) index → DeletedTo old mid db category index
passed_to {old} {mid} {db} {category} {from} {index} some first =
    let order = first.here.0 in
    let sum : from + (index - from) ≡ index = omega (arith, order) in
    subst (DeletedTo old mid db category) sum (passed from (index - from) some (omega (arith, sum, first_inside some first)) (λ at from_on under of. first.none_below at (omega (arith, sum, under)) (from_on, of)))

pub deleted_next : {old mid new : List ℕ} {db : Db} {category from index : ℕ} → DeletedTo old mid db category from → IsFirst (entries_in (store_of mid) db) from (IsOf category) index
    → LeavesStore mid new (data_freed (store_of mid) db index) → MakesNone mid new → DeletedTo old new db category (index + 1)
deleted_next {mid = mid} {db} {category} {index = index} some first freed none =
    let there = of_within (entries_in (store_of mid) db) index (IsOf category) first.here.1 in
    deleted_turn (passed_to some first) (first_inside some first) (deleted_one db index category there.0 some.leaves.accepted (number_there some) there.1 there.2 freed) none

-- no one is left
pub deleted_all : {old mid : List ℕ} {db : Db} {category from : ℕ} → DeletedTo old mid db category from → NoneBehind (entries_in (store_of mid) db) from (IsOf category) → from ≤ length (entries_in (store_of old) db)
    → LeavesStore old mid (category_deleted (store_of old) db category)
deleted_all {old} {mid} {db} {category} {from} some none within =
    let all : ℕ = length (entries_in (store_of old) db) in
    let sum : from + (all - from) ≡ all = omega (arith, within) in
    let last = subst (DeletedTo old mid db category) sum (passed from (all - from) some (omega (arith, sum)) (λ at from_on under. none at from_on)) in
    let entries : List (Entry ℕ) = last.here.one.database.entries in
    let change : Entry ℕ → Entry ℕ = deleted_category category in
    let enough : length entries ≤ all = omega (arith, count_here last.here) in
    left_as old mid _ _ last.leaves (record {
      map = λ name.
          (ap (λ (es : List (Entry ℕ)). all_gone (store_of old).map (data_of_category category es) name) (take_all all entries enough)
          ∙ ap (λ (x : Option StoredDatabase). all_gone (store_of old).map (data_of_category category (entries_of x)) name) (sym last.here.found));
      databases = changed_alike old db.0 (with_list (first_changed change all)) (with_list (map change)) last.here last.accepted
          (ap (λ (es : List (Entry ℕ)). record last.here.one.database { entries = es }) (all_changed change all entries enough));
    })
