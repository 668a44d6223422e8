-- One record after a call on a category.
use Rattle.record_db.proofs.Words.{◌≡◌, ℕ, true, false, List, [], ◌∷◌, map, Option, Some, None, refl, sym, ap, ◌∙◌, inl, inr, cases_eq, eq-eqb, ne_eqb, IsSome, ChunkMap, gone, Entry, entry_data, Store, Accepted, store_of, all_gone, with_number, entry_under, entry_changed, data_of_entry, without_data, with_chunks, data_freed, LeavesStore, is_of, data_of_category, deleted_category, Db, cond-true, cond-false, entry_alike, entry_kept, left_as, itself}

-- the entries of an option, one or none
abbrev pub listed_if : Option (Entry ℕ) → List (Entry ℕ)
listed_if None = []
listed_if (Some entry) = entry ∷ []

-- a store in which the record at an index is deleted, if it is of a category, and its data freed
abbrev pub one_deleted : Store → Db → ℕ → ℕ → Store
one_deleted store db index category =
    with_chunks (entry_changed store db index (deleted_category category)) (all_gone store.map (data_of_category category (listed_if (entry_under store db index))))

one_gone : (chunks : ChunkMap) (slot name : ℕ) → gone chunks slot name ≡ all_gone chunks (slot ∷ []) name
one_gone chunks slot name = elim (cases_eq name slot) [
  | inl e ↦ rw (eq-eqb name slot e, eq-eqb slot name (sym e)) refl
  | inr ne ↦ rw (ne_eqb name slot ne, ne_eqb slot name (λ z. ne (sym z))) refl
]

pub deleted_one : {image new : List ℕ} (db : Db) (index category : ℕ) (entry : Entry ℕ) → Accepted image → IsSome (with_number (store_of image) db.0) → entry_under (store_of image) db index ≡ Some entry → is_of category entry ≡ true
    → LeavesStore image new (data_freed (store_of image) db index) → LeavesStore image new (one_deleted (store_of image) db index category)
deleted_one {image} {new} db index category entry a has e of leaves =
    let names : data_of_category category (entry ∷ []) ≡ entry_data entry ∷ [] = ap (map entry_data) (cond-true (is_of category entry) (entry ∷ []) [] of) in
    left_as image new (data_freed (store_of image) db index) (one_deleted (store_of image) db index category) leaves (record {
      map = λ name.
          (ap (λ (n : ℕ). gone (store_of image).map n name) (ap data_of_entry e)
          ∙ one_gone (store_of image).map (entry_data entry) name
          ∙ ap (λ (ns : List ℕ). all_gone (store_of image).map ns name) (sym names)
          ∙ ap (λ (x : Option (Entry ℕ)). all_gone (store_of image).map (data_of_category category (listed_if x)) name) (sym e));
      databases = entry_alike image db index entry without_data (deleted_category category) a has e (sym (cond-true (is_of category entry) (without_data entry) entry of));
    })

pub none_deleted : (image : List ℕ) (db : Db) (index category : ℕ) (entry : Entry ℕ) → Accepted image → IsSome (with_number (store_of image) db.0) → entry_under (store_of image) db index ≡ Some entry → is_of category entry ≡ false
    → LeavesStore image image (one_deleted (store_of image) db index category)
none_deleted image db index category entry a has e other =
    let names : data_of_category category (entry ∷ []) ≡ [] = ap (map entry_data) (cond-false (is_of category entry) (entry ∷ []) [] other) in
    itself image (one_deleted (store_of image) db index category) a (record {
      map = λ name.
          (ap (λ (ns : List ℕ). all_gone (store_of image).map ns name) (sym names)
          ∙ ap (λ (x : Option (Entry ℕ)). all_gone (store_of image).map (data_of_category category (listed_if x)) name) (sym e));
      databases = entry_kept image db index entry (deleted_category category) a has e (cond-false (is_of category entry) (without_data entry) entry other);
    })
