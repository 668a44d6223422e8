-- The entries of one database changed: two changes, and one that changes nothing.
use Rattle.palm_store.proofs.Words.{◌≡◌, ℕ, Bool, List, [], ◌∷◌, set, Some, None, refl, sym, ap, subst, ◌∙◌, inl, inr, cases_eq, eq-eqb, ne_eqb, set-get_or, get_or_from_slice_get, ◌==◌, IsSome, slice_get, slice_set, find, Database, Entry, StoredDatabase, databases, Accepted, store_of, with_changed, with_number, entry_under, replaced_if, replaced, entry_changed, LeavesStore, Db, same_some, none_some, changed_by_number, changed_twice, number_once, raised_if}
use Rattle.palm_store.proofs.OpenedEntries.{Here, here, entry_is}

-- a database with other entries
abbrev pub with_list : (List (Entry ℕ) → List (Entry ℕ)) → Database ℕ → Database ℕ
with_list change database = record database { entries = change database.entries }

-- changes that make the same of the database that is there
pub changed_alike : (image : List ℕ) (db : ℕ) (one other : Database ℕ → Database ℕ) (h : Here image db) → Accepted image → one h.one.database ≡ other h.one.database → with_changed (store_of image).databases db one ≡ with_changed (store_of image).databases db other
unfolding store_of
changed_alike image db one other h a alike =
    let once = number_once image db a in
    let number = ap (λ (s : StoredDatabase). s.db) h.at ∙ h.number in
    changed_by_number db one (databases image) h.index h.one once h.inside number
    ∙ ap (λ (d : Database ℕ). set (databases image) h.index (record { db = db; database = d }))
    (ap (λ (s : StoredDatabase). one s.database) h.at ∙ alike ∙ sym (ap (λ (s : StoredDatabase). other s.database) h.at))
    ∙ sym (changed_by_number db other (databases image) h.index h.one once h.inside number)

-- two changes, one after the other
pub changed_behind : (image : List ℕ) (db : ℕ) (first second both : List (Entry ℕ) → List (Entry ℕ)) (h : Here image db) → Accepted image → second (first h.one.database.entries) ≡ both h.one.database.entries
    → with_changed (with_changed (store_of image).databases db (with_list first)) db (with_list second) ≡ with_changed (store_of image).databases db (with_list both)
changed_behind image db first second both h a alike =
    changed_twice db (with_list first) (with_list second) (store_of image).databases
    ∙ changed_alike image db (λ database. with_list second (with_list first database)) (with_list both) h a (ap (λ (entries : List (Entry ℕ)). record h.one.database { entries = entries }) alike)

-- a change that changes nothing
with_itself : (db : ℕ) (stored : List StoredDatabase) → with_changed stored db (λ database. database) ≡ stored
with_itself db [] = refl
with_itself db (one ∷ stored) = elim (cases_eq one.db db) [
  | inl e ↦ rw (eq-eqb one.db db e, with_itself db stored) (ap (λ (number : ℕ). record { db = number; database = one.database } ∷ stored) (sym e))
  | inr ne ↦ rw (ne_eqb one.db db ne, with_itself db stored)
]

pub changed_nothing : (image : List ℕ) (db : ℕ) (change : List (Entry ℕ) → List (Entry ℕ)) (h : Here image db) → Accepted image → change h.one.database.entries ≡ h.one.database.entries
    → with_changed (store_of image).databases db (with_list change) ≡ (store_of image).databases
changed_nothing image db change h a alike =
    changed_alike image db (with_list change) (λ database. database) h a (ap (λ (entries : List (Entry ℕ)). record h.one.database { entries = entries }) alike)
    ∙ with_itself db (store_of image).databases

-- the database of the number, changed
pub found_changed : (db : ℕ) (change : Database ℕ → Database ℕ) (stored : List StoredDatabase) (one : StoredDatabase) → find (λ other. other.db == db) stored ≡ Some one
    → find (λ other. other.db == db) (with_changed stored db change) ≡ Some (record { db = db; database = change one.database })
found_changed db change [] one found = absurd (none_some None one refl found)
found_changed db change (x ∷ stored) one found = elim (cases_eq x.db db) [
  | inl e ↦ rw (eq-eqb x.db db e, eq-eqb db db refl) (ap (λ (y : StoredDatabase). Some (record { db = db; database = change y.database })) (same_some x one (rw (eq-eqb x.db db e) at found)))
  | inr ne ↦ rw (ne_eqb x.db db ne, ne_eqb x.db db ne) (found_changed db change stored one (rw (ne_eqb x.db db ne) at found))
]

replaced_alike : (entries : List (Entry ℕ)) (index : ℕ) (entry : Entry ℕ) (one other : Entry ℕ → Entry ℕ) → slice_get entries index ≡ Some entry → one entry ≡ other entry → replaced entries index one ≡ replaced entries index other
replaced_alike entries index entry one other at same =
    ap (replaced_if entries index one) at ∙ ap (λ (e : Entry ℕ). slice_set entries index e) same ∙ sym (ap (replaced_if entries index other) at)

replaced_same : (entries : List (Entry ℕ)) (index : ℕ) (entry : Entry ℕ) (change : Entry ℕ → Entry ℕ) → slice_get entries index ≡ Some entry → change entry ≡ entry → replaced entries index change ≡ entries
replaced_same entries index entry change at same =
    ap (replaced_if entries index change) at
    ∙ ap (λ (e : Entry ℕ). slice_set entries index e) (same ∙ sym (get_or_from_slice_get entries index entry entry at))
    ∙ set-get_or entries index entry

-- changes that make the same of the entry that is there
pub entry_alike : (image : List ℕ) (db : Db) (index : ℕ) (entry : Entry ℕ) (one other : Entry ℕ → Entry ℕ) → Accepted image → IsSome (with_number (store_of image) db.0) → entry_under (store_of image) db index ≡ Some entry → one entry ≡ other entry
    → with_changed (store_of image).databases db.0 (with_list (λ entries. replaced entries index one)) ≡ with_changed (store_of image).databases db.0 (with_list (λ entries. replaced entries index other))
entry_alike image db index entry one other a has e same =
    let h = here image db.0 a has in
    changed_alike image db.0 (with_list (λ entries. replaced entries index one)) (with_list (λ entries. replaced entries index other)) h a
    (ap (λ (entries : List (Entry ℕ)). record h.one.database { entries = entries }) (replaced_alike h.one.database.entries index entry one other (entry_is image db index entry h e) same))

-- an entry that is set is changed, by any change that makes the same of it
pub set_as : (counts : Bool) (image new : List ℕ) (db : Db) (index : ℕ) (entry : Entry ℕ) (info change : Entry ℕ → Entry ℕ) → Accepted image → IsSome (with_number (store_of image) db.0) → entry_under (store_of image) db index ≡ Some entry → info entry ≡ change entry
    → LeavesStore image new (raised_if counts (entry_changed (store_of image) db index info) db) → LeavesStore image new (raised_if counts (entry_changed (store_of image) db index change) db)
set_as counts image new db index entry info change a has e same leaves =
    subst (λ (stored : List StoredDatabase). LeavesStore image new (raised_if counts (record (store_of image) { databases = stored }) db)) (entry_alike image db index entry info change a has e same) leaves

-- a change of an entry that leaves it as it is
pub entry_kept : (image : List ℕ) (db : Db) (index : ℕ) (entry : Entry ℕ) (change : Entry ℕ → Entry ℕ) → Accepted image → IsSome (with_number (store_of image) db.0) → entry_under (store_of image) db index ≡ Some entry → change entry ≡ entry
    → (store_of image).databases ≡ with_changed (store_of image).databases db.0 (with_list (λ entries. replaced entries index change))
entry_kept image db index entry change a has e same =
    let h = here image db.0 a has in
    sym (changed_nothing image db.0 (λ entries. replaced entries index change) h a (replaced_same h.one.database.entries index entry change (entry_is image db index entry h e) same))
