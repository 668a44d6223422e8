-- All records of a category moved to another are records with other attributes.
use Rattle.record_db.proofs.Words.{◌≡◌, ℕ, ◌<◌, ◌≤◌, ◌^◌, Bool, true, false, List, [], ◌∷◌, map, refl, ap, ◌∙◌, arith, inl, inr, cases_lt, ◌==◌, ◌&&◌, ◌||◌, ◌%◌, not, if◌then◌else◌, Entry, a_record, a_resource, is_deleted, Accepted, store_of, with_attributes, with_entries, LeavesStore, has_category, with_category, recategorized, moved_category, Db, cond-false, Here, with_list, changed_alike, left_as}
use Rattle.std.proofs.lemmas.Bool.{cond_both}
use Rattle.std.proofs.lemmas.Nat.{or_lt}
use Rattle.palm_store.specs.AttributeChanges.{MayChange}
use Rattle.record_db.specs.Categories.{moved_attributes}

-- ---- the attributes

pub below_categories : (to : ℕ) → (16 ≤ to → ⊥) → to < 16
below_categories to none = omega (arith, none)

recategorized_fits : (to attributes : ℕ) (dirty : Bool) → to < 16 → attributes < 2 ^ 8 → recategorized to dirty attributes < 2 ^ 8
recategorized_fits to attributes false small below = omega arith
recategorized_fits to attributes true small below = or_lt 8 (with_category to attributes) 0x40 (omega arith) (omega arith)

-- a deleted one is of no category
deleted_of_none : (category attributes : ℕ) → is_deleted attributes ≡ true → has_category category attributes ≡ false
deleted_of_none category attributes gone = ap (λ (deleted : Bool). not deleted && ((category == 255) || (attributes % 16 == category))) gone

pub may_move : (to from : ℕ) (dirty : Bool) → to < 16 → MayChange (moved_attributes to from dirty)
may_move to from dirty small = record {
  fits = λ attributes below. cond_both (has_category from attributes) (recategorized to dirty attributes) attributes (λ (x : ℕ). x < 2 ^ 8) (λ of. recategorized_fits to attributes dirty small below) (λ of. below);
  deleted = λ attributes gone. ap is_deleted (cond-false (has_category from attributes) (recategorized to dirty attributes) attributes (deleted_of_none from attributes gone)) ∙ gone;
}

-- ---- the entries

record_if : (of : Bool) (one other id slot : ℕ) → a_record (if of then one else other) id slot ≡ (if of then a_record one id slot else a_record other id slot)
record_if true one other id slot = refl
record_if false one other id slot = refl

one_moved : (to from : ℕ) (dirty : Bool) (entry : Entry ℕ) → with_attributes (moved_attributes to from dirty) entry ≡ moved_category to from dirty entry
one_moved to from dirty (a_record attributes id slot) = record_if (has_category from attributes) (recategorized to dirty attributes) attributes id slot
one_moved to from dirty (a_resource kind id slot) = refl

all_moved : (to from : ℕ) (dirty : Bool) (entries : List (Entry ℕ)) → map (with_attributes (moved_attributes to from dirty)) entries ≡ map (moved_category to from dirty) entries
all_moved to from dirty [] = refl
all_moved to from dirty (entry ∷ entries) =
    rw (all_moved to from dirty entries, one_moved to from dirty entry) refl

pub category_moved : {image new : List ℕ} {db : Db} (to from : ℕ) (dirty : Bool) (h : Here image db.0) → Accepted image
    → LeavesStore image new (with_entries (store_of image) db (map (with_attributes (moved_attributes to from dirty)))) → LeavesStore image new (with_entries (store_of image) db (map (moved_category to from dirty)))
category_moved {image} {new} {db} to from dirty h a leaves = left_as image new _ _ leaves (record {
  map = λ name. refl;
  databases = changed_alike image db.0 (with_list (map (with_attributes (moved_attributes to from dirty)))) (with_list (map (moved_category to from dirty))) h a
      (ap (λ (entries : List (Entry ℕ)). record h.one.database { entries = entries }) (all_moved to from dirty h.one.database.entries));
})
