-- The records of an accepted image, by their indexes.
use Rattle.record_db.proofs.Words.{◌≡◌, ℕ, ◌<◌, List, Option, Some, None, refl, ap, subst, ◌∙◌, arith, inl, inr, true, false, ◌↔◌, not, IsSome, IsSomeAnd, IfSome, slice_get, LiveChunk, not_owned, callers_map, Of, IsLocked, has_category, Database, Entry, a_record, a_resource, is_deleted, HasData, Accepted, store_of, with_number, entry_under, OfEntry, data_of_entry, data_under, IsNameOf, IsInfoOf, Db, IsNamed, here, entry_is, of_all, number_read, entries_read, ◌≢◌, both_ways}
use Rattle.heap_model.specs.declared.names.Name.{Name}
use Rattle.heap_model.specs.declared.entry.RecordInfo.{RecordInfo}
use Rattle.std.proofs.lemmas.Bool.{and_parts, not-true}
use Rattle.laws_heap.proofs.Meanings.{held-zero}
use Rattle.laws_store.proofs.Owners.{owned_some}
use Rattle.palm_store.specs.Databases.{HasDatabase}
use Rattle.palm_store.proofs.OpenedEntries as entries

-- ---- the entry

-- what is told of a record says what its entry is
pub info_is : (x : Option (Entry ℕ)) (info : RecordInfo) → OfEntry x (IsInfoOf info) → (slot : ℕ) × (x ≡ Some (a_record info.attributes info.id slot)) × IsNameOf slot info.«data»
info_is None info p = absurd p
info_is (Some (a_record attributes id slot)) info p = (slot, rw (p.0, p.1) refl, p.2)
info_is (Some (a_resource kind id slot)) info p = absurd p

-- a record without data is deleted
pub no_data : (image : List ℕ) (db : Db) (index attributes id slot : ℕ) → Accepted image → IsSome (with_number (store_of image) db.0) → entry_under (store_of image) db index ≡ Some (a_record attributes id slot) → slot ≡ 0 → is_deleted attributes ≡ true
no_data image db index attributes id slot a has e none =
    let h = here image db.0 a has in
    elim (of_all (HasData image) h.one.database.entries index (a_record attributes id slot) h.whole.entries (entry_is image db index (a_record attributes id slot) h e)) [
      | inl deleted ↦ deleted.1
      | inr own ↦ absurd (omega (arith, owned_some image slot 15 a.heap own (omega arith), none))
    ]

-- and one that is not has data
pub has_data : (image : List ℕ) (db : Db) (index : ℕ) (info : RecordInfo) → Accepted image → IsSome (with_number (store_of image) db.0) → OfEntry (entry_under (store_of image) db index) (IsInfoOf info) → is_deleted info.attributes ≡ false → IsSome info.«data»
has_data image db index info a has told alive =
    let is = info_is (entry_under (store_of image) db index) info told in
    by info.«data» is.0 is.2 (λ none. no_data image db index info.attributes info.id is.0 a has is.1 none) where
      by : (x : Option Name) (slot : ℕ) → IsNameOf slot x → (slot ≡ 0 → is_deleted info.attributes ≡ true) → IsSome x
      by None slot none gone = let deleted = gone none in absurd cc
      by (Some name) slot some gone = refl

-- ---- its data

-- callers may name the data of one that is of a category
pub of_named : (image : List ℕ) (db : Db) (index category : ℕ) (database : Database ℕ) (attributes id slot : ℕ) → Accepted image → HasDatabase image db.0 database → slice_get database.entries index ≡ Some (a_record attributes id slot) → has_category category attributes ≡ true → IsNamed image slot
of_named image db index category database attributes id slot a is at of =
    let has = number_read image db database is in
    let e : entry_under (store_of image) db index ≡ Some (a_record attributes id slot) = ap (λ (xs : List (Entry ℕ)). slice_get xs index) (entries_read image db database is) ∙ at in
    let some : slot ≢ 0 = λ none. both_ways (is_deleted attributes) (not-true (is_deleted attributes) (and_parts (not (is_deleted attributes)) _ of).0) (no_data image db index attributes id slot a has e none) in
    entries.data_named image db index (a_record attributes id slot) a has e (omega (arith, some))

-- callers may name what is told of
pub data_named : (image : List ℕ) (db : Db) (index : ℕ) (info : RecordInfo) → Accepted image → IsSome (with_number (store_of image) db.0) → OfEntry (entry_under (store_of image) db index) (IsInfoOf info) → IfSome info.«data» (λ name. IsNamed image name.0)
data_named image db index info a has told =
    let is = info_is (entry_under (store_of image) db index) info told in
    by info.«data» is.0 is.2 (λ some. entries.data_named image db index (a_record info.attributes info.id is.0) a has is.1 some) where
      by : (x : Option Name) (slot : ℕ) → IsNameOf slot x → (0 < slot → IsNamed image slot) → IfSome x (λ name. IsNamed image name.0)
      by None slot none named = tt
      by (Some name) slot some named = rw some.1 (named some.0)

-- what is told of the data says whether it is locked
pub locked_data : (image : List ℕ) (db : Db) (index : ℕ) (info : RecordInfo) → Accepted image → OfEntry (entry_under (store_of image) db index) (IsInfoOf info)
    → (Of ((store_of image).map (data_under (store_of image) db index)) IsLocked) ↔ (IsSomeAnd info.«data» (λ name. Of ((store_of image).map name.0) IsLocked))
unfolding store_of
locked_data image db index info a told =
    let is = info_is (entry_under (store_of image) db index) info told in
    rw (ap data_of_entry is.1) (by info.«data» is.0 is.2) where
      by : (x : Option Name) (slot : ℕ) → IsNameOf slot x → (Of (callers_map image slot) IsLocked) ↔ (IsSomeAnd x (λ name. Of (callers_map image name.0) IsLocked))
      by None slot none = (λ p. subst (λ (o : Option LiveChunk). Of o IsLocked) (ap (callers_map image) none ∙ ap (not_owned 0) (held-zero image a.heap)) p, λ q. absurd q)
      by (Some name) slot some = rw some.1 (λ p. p, λ q. q)
