-- Records whose attributes are set: their IDs stay.
use Rattle.record_db.proofs.Words.{◌≡◌, ◌≢◌, ℕ, zero, suc, ◌+◌, ◌^◌, ◌<◌, ◌≤◌, Bool, true, false, List, [], ◌∷◌, Option, Some, refl, sym, ap, subst, ◌∙◌, arith, inl, inr, cases_eq, eq-eqb, ne_eqb, ◌⊎◌, ◌==◌, IsSome, slice_get, filter_map, times, Entry, a_record, a_resource, entry_with, is_deleted, StoredDatabase, unique_id, unique_ids, Accepted, store_of, with_number, entries_of, entries_in, entry_under, OfEntry, HasId, HasOther, data_of_entry, data_under, resources_under, with_attributes, entry_changed, data_exchanged, entry_swapped, raised, LeavesStore, id_in, id_set, Db, cond-true, cond-false, same_some, none_some, same-yes, times-cons, all-times, distinct-times, with_info, CanHave, raised_if, SomeHas, here, entry_is, fits, entry_alike, set_as}
use Rattle.std.proofs.Math.Nat.{mod-lt}
use Rattle.palm_store.specs.declared.entries.infos.EntryInfo.TheVariants as infos
use Rattle.record_db.proofs.Entries.{no_data}

-- ---- IDs

abbrev ids : List (Entry ℕ) → List ℕ
ids entries = filter_map unique_id entries

abbrev Has : ℕ → Entry ℕ → Type 0
Has id entry = unique_id entry ≡ Some id

first_has : (entry : Entry ℕ) (entries : List (Entry ℕ)) (id : ℕ) → Has id entry → times id (ids (entry ∷ entries)) ≡ 1 + times id (ids entries)
first_has (a_record attributes own slot) entries id e = omega (arith, same-yes own id (same_some own id e), times-cons id own (ids entries))
first_has (a_resource kind own slot) entries id e = absurd (none_some (unique_id (a_resource kind own slot)) id refl e)

more_have : (entry : Entry ℕ) (entries : List (Entry ℕ)) (id : ℕ) → times id (ids entries) ≤ times id (ids (entry ∷ entries))
more_have (a_record attributes own slot) entries id = omega (arith, times-cons id own (ids entries))
more_have (a_resource kind own slot) entries id = omega arith

has_one : (entries : List (Entry ℕ)) (index id : ℕ) → OfEntry (slice_get entries index) (Has id) → 0 < times id (ids entries)
has_one [] index id p = absurd p
has_one (entry ∷ entries) zero id p = omega (arith, first_has entry entries id p)
has_one (entry ∷ entries) (suc index) id p = omega (arith, has_one entries index id p, more_have entry entries id)

has_two : (entries : List (Entry ℕ)) (index other id : ℕ) → other ≢ index → OfEntry (slice_get entries index) (Has id) → OfEntry (slice_get entries other) (Has id) → 1 < times id (ids entries)
has_two [] index other id ne p q = absurd p
has_two (entry ∷ entries) zero zero id ne p q = absurd (ne refl)
has_two (entry ∷ entries) zero (suc other) id ne p q = omega (arith, first_has entry entries id p, has_one entries other id q)
has_two (entry ∷ entries) (suc index) zero id ne p q = omega (arith, first_has entry entries id q, has_one entries index id p)
has_two (entry ∷ entries) (suc index) (suc other) id ne p q = omega (arith, has_two entries index other id (λ e. ne (ap suc e)) p q, more_have entry entries id)

-- ---- what is said of a record keeps its ID

pub may_have : (image : List ℕ) (db : Db) (index attributes id slot now : ℕ) → Accepted image → IsSome (with_number (store_of image) db.0) → resources_under (store_of image) db ≡ false → entry_under (store_of image) db index ≡ Some (a_record attributes id slot)
    → (slot ≡ 0 → is_deleted now ≡ true) → CanHave (store_of image) db (resources_under (store_of image) db) index (infos.Record now id)
may_have image db index attributes id slot now a has records e deleted =
    let h = here image db.0 a has in
    let entry : Entry ℕ = a_record attributes id slot in
    let own : OfEntry (slice_get h.one.database.entries index) (Has id) = subst (λ (x : Option (Entry ℕ)). OfEntry x (Has id)) (sym (entry_is image db index entry h e)) refl in
    let positive : id ≢ 0 = all-times (λ (x : ℕ). x ≢ 0) (unique_ids h.one.database) h.whole.ids.none_zero id (has_one h.one.database.entries index id own) in
    let small = (fits image db false index entry a has records e).1 in
    let alone : HasOther (store_of image) db index id → ⊥ = λ other.
    (let same : OfEntry (slice_get h.one.database.entries other.0) (Has id) = subst (λ (x : Option StoredDatabase). OfEntry (slice_get (entries_of x) other.0) (Has id)) h.found other.2 in
    omega (arith, has_two h.one.database.entries index other.0 id other.1 own same, distinct-times (unique_ids h.one.database) h.whole.ids.distinct id)) in
    (records, omega (arith, positive), omega (arith, small), alone, λ none. deleted (sym (ap data_of_entry e) ∙ none))

-- the same for any attributes, if it has data
pub live_may_have : (image : List ℕ) (db : Db) (index attributes id slot now : ℕ) → Accepted image → IsSome (with_number (store_of image) db.0) → resources_under (store_of image) db ≡ false → entry_under (store_of image) db index ≡ Some (a_record attributes id slot)
    → 0 < slot → CanHave (store_of image) db (resources_under (store_of image) db) index (infos.Record now id)
live_may_have image db index attributes id slot now a has records e some =
    may_have image db index attributes id slot now a has records e (λ none. absurd (omega (arith, none, some)))

-- ---- what is said of a record with another ID

-- if an ID is in the number, it is given
given_in : (number own : ℕ) → id_in number ≢ 0 → id_set number own ≡ id_in number
given_in number own some = cond-false (id_in number == 0) own (id_in number) (ne_eqb (id_in number) 0 some)

-- the ID that is given is the record's own, or no record has it
pub may_have_id : (image : List ℕ) (db : Db) (index attributes id slot now number given : ℕ) → Accepted image → IsSome (with_number (store_of image) db.0) → resources_under (store_of image) db ≡ false → entry_under (store_of image) db index ≡ Some (a_record attributes id slot)
    → (slot ≡ 0 → is_deleted now ≡ true) → given ≡ id_set number id → (given ≡ id) ⊎ (SomeHas (entries_in (store_of image) db) (HasId given) → ⊥) → CanHave (store_of image) db (resources_under (store_of image) db) index (infos.Record now given)
may_have_id image db index attributes id slot now number given a has records e deleted set which =
    let own = may_have image db index attributes id slot now a has records e deleted in
    let kept : given ≡ id → CanHave (store_of image) db (resources_under (store_of image) db) index (infos.Record now given) = λ same. rw same own in
    elim which [
      | inl same ↦ kept same
      | inr none ↦ elim (cases_eq (id_in number) 0) [
        | inl nothing ↦ kept (set ∙ cond-true (id_in number == 0) id (id_in number) (eq-eqb (id_in number) 0 nothing))
        | inr some ↦
            let is = set ∙ given_in number id some in
            (own.0, omega (arith, is, some), omega (arith, is, mod-lt number (let positive : 0 < 2 ^ 24 = omega arith in positive)), (λ other. none (other.0, other.2)), own.4)
      ]
    ]

-- no other record has the ID that is in the number
pub no_other : (image : List ℕ) (db : Db) (index attributes id slot number given : ℕ) → Accepted image → IsSome (with_number (store_of image) db.0) → resources_under (store_of image) db ≡ false → entry_under (store_of image) db index ≡ Some (a_record attributes id slot)
    → given ≡ id_set number id → (given ≡ id) ⊎ (SomeHas (entries_in (store_of image) db) (HasId given) → ⊥) → (id_in number ≢ 0) × HasOther (store_of image) db index (id_in number) → ⊥
no_other image db index attributes id slot number given a has records e set which both =
    let new = may_have_id image db index attributes id slot attributes number given a has records e (λ none. no_data image db index attributes id slot a has e none) set which in
    new.3 (subst (HasOther (store_of image) db index) (sym (set ∙ given_in number id both.0)) both.1)

-- ---- what it changes

-- if the record keeps its ID, only its attributes change
pub attributes_set : (counts : Bool) (image new : List ℕ) (db : Db) (index attributes id slot now : ℕ) (change : ℕ → ℕ) → Accepted image → IsSome (with_number (store_of image) db.0) → entry_under (store_of image) db index ≡ Some (a_record attributes id slot) → now ≡ change attributes
    → LeavesStore image new (raised_if counts (entry_changed (store_of image) db index (with_info (infos.Record now id))) db) → LeavesStore image new (raised_if counts (entry_changed (store_of image) db index (with_attributes change)) db)
attributes_set counts image new db index attributes id slot now change a has e is leaves =
    set_as counts image new db index (a_record attributes id slot) (with_info (infos.Record now id)) (with_attributes change) a has e (ap (λ (x : ℕ). a_record x id slot) is) leaves

-- the same, if a caller's chunk becomes its data
pub data_swapped : (image new : List ℕ) (db : Db) (index attributes id slot now name owner : ℕ) (change : ℕ → ℕ) → Accepted image → IsSome (with_number (store_of image) db.0) → entry_under (store_of image) db index ≡ Some (a_record attributes id slot) → now ≡ change attributes
    → LeavesStore image new (raised (entry_swapped (store_of image) db index (with_info (infos.Record now id)) name owner) db) → LeavesStore image new (raised (entry_swapped (store_of image) db index (with_attributes change) name owner) db)
data_swapped image new db index attributes id slot now name owner change a has e is leaves =
    let given : (Entry ℕ → Entry ℕ) → Entry ℕ → Entry ℕ = λ set entry. entry_with (λ (slot : ℕ). name) (set entry) in
    subst (λ (stored : List StoredDatabase). LeavesStore image new (raised (record { map = data_exchanged (store_of image).map (data_under (store_of image) db index) owner name; databases = stored }) db))
    (entry_alike image db index (a_record attributes id slot) (given (with_info (infos.Record now id))) (given (with_attributes change)) a has e (ap (λ (x : ℕ). a_record x id name) is)) leaves
