-- The databases of an accepted image: which names are numbers, and what is under one.
use Rattle.palm_store.proofs.Words.{◌≡◌, ◌≢◌, ℕ, ◌*◌, ◌/◌, ◌<◌, List, [], length, get_or, None, sym, ap, ◌∙◌, arith, inl, inr, cases_lt, get_or-map, length-map, length-map-range_with_len, get_or-map-range_with_len, get_or_default_zero, managers_owner, u32_at, HeapAccepted, directory_of, held, times, database_in, HasShape, StoredDatabase, bytes_of, bytes_under, owner_under, directory_bytes, listed, database_under, databases, IsHeaderSlot, Accepted, store_of, with_number, held-zero, times-some, times-contained, contained-times, spelled_shape, directory_owner, IsMovable, is_movable, HasNumber, IsListedAt}
-- These laws are those of numbers in an accepted image.
pub use Rattle.laws_store.proofs.Numbered.{with_number_is, with_number_none, number_listed, listed_number, number_here as has_number_is, in_store, number_slot, number_held, number_spelled}
use Rattle.palm_store.proofs.Maps.{owner_none}

-- what isn't a number is that of no database
pub no_number : (image : List ℕ) (db : ℕ) → (HasNumber image db → ⊥) → with_number (store_of image) db ≡ None
no_number image db none = elim (cases_lt 0 (times db (listed image))) [
  | inl some ↦ absurd (none (listed_number image db some))
  | inr unlisted ↦ with_number_none image db (omega arith)
]

-- such a chunk's name is a number
pub slot_number : (image : List ℕ) (db : ℕ) → Accepted image → IsHeaderSlot image db → HasNumber image db
slot_number image db a slot = elim (a.all_listed db slot.owner) [
  | inl directory ↦ absurd (slot.other directory)
  | inr there ↦ listed_number image db (times-contained db (listed image) there)
]

-- a name without a chunk has no owner
pub none_owner : (image : List ℕ) (name : ℕ) → held image name ≡ None → owner_under image name ≢ managers_owner
none_owner image name none e = (let no = owner_none image name none in omega arith)

-- what stands under a number
pub number_movable : (image : List ℕ) (db : ℕ) → Accepted image → HasNumber image db → IsMovable image db
number_movable image db a has = is_movable image db (record { heap = a.heap; owner = (number_slot image db a has).owner })

pub number_shape : (image : List ℕ) (db : ℕ) → Accepted image → HasNumber image db → HasShape (bytes_under image db)
number_shape image db a has = spelled_shape (database_in (bytes_under image db)) (bytes_under image db) (number_spelled image db a has)

-- the databases by index
pub length-listed : (image : List ℕ) → length (listed image) ≡ length (directory_bytes image) / 4
unfolding listed
length-listed image = length-map-range_with_len (λ i. u32_at (directory_bytes image) (4 * i)) 0 (length (directory_bytes image) / 4)

pub length-databases : (image : List ℕ) → length (databases image) ≡ length (listed image)
unfolding databases
length-databases image = length-map (listed image) (database_under image)

pub slot_at : (image : List ℕ) (index : ℕ) → index < length (listed image) → get_or (listed image) index 0 ≡ u32_at (directory_bytes image) (4 * index)
unfolding listed
slot_at image index below = get_or-map-range_with_len (λ i. u32_at (directory_bytes image) (4 * i)) 0 (length (directory_bytes image) / 4) index index 0 (omega (arith, length-listed image)) (omega arith)

pub database_at : (image : List ℕ) (index : ℕ) (d : StoredDatabase) → index < length (listed image) → get_or (databases image) index d ≡ database_under image (get_or (listed image) index 0)
unfolding databases
database_at image index d below = get_or-map (database_under image) (listed image) index 0 d below

-- this database is the one at an index
pub record Stands (image : List ℕ) (index : ℕ) (one : StoredDatabase) : Type 0 where
  pub inside : index < length (databases image)
  pub is : (d : StoredDatabase) → get_or (databases image) index d ≡ one

pub stands : (image : List ℕ) (db index : ℕ) → IsListedAt image db index → Stands image index (database_under image db)
stands image db index at = record { inside = omega (arith, length-databases image); is = λ d. database_at image index d at.inside ∙ ap (database_under image) at.there }

-- what stands at an index is a number
pub number_at : (image : List ℕ) (index db : ℕ) → index < length (listed image) → db ≡ u32_at (directory_bytes image) (4 * index) → HasNumber image db
number_at image index db below is = listed_number image db (times-some db (listed image) index 0 below (slot_at image index below ∙ sym is))

pub number_of_slot : (image : List ℕ) (index : ℕ) → index < length (listed image) → HasNumber image (get_or (listed image) index 0)
number_of_slot image index below = number_at image index (get_or (listed image) index 0) below (slot_at image index below)

pub counts : (image bytes : List ℕ) → bytes ≡ directory_bytes image → length (listed image) ≡ length bytes / 4
counts image bytes same = length-listed image ∙ ap (λ (bs : List ℕ). length bs / 4) (sym same)

-- the same, where these are the directory's bytes
pub number_in : (image bytes : List ℕ) (index db : ℕ) → bytes ≡ directory_bytes image → index < length bytes / 4 → db ≡ u32_at bytes (4 * index) → HasNumber image db
number_in image bytes index db same below is = number_at image index db (omega (arith, counts image bytes same)) (rw same at is)

pub slot_in : (image bytes : List ℕ) (index db : ℕ) → bytes ≡ directory_bytes image → index < length bytes / 4 → db ≡ u32_at bytes (4 * index) → IsListedAt image db index
slot_in image bytes index db same below is = record { inside = omega (arith, counts image bytes same); there = slot_at image index (omega (arith, counts image bytes same)) ∙ sym (rw same at is) }

-- the number that is read there is listed
pub slot_read : (image bytes : List ℕ) (index : ℕ) → bytes ≡ directory_bytes image → index < length (listed image) → u32_at bytes (4 * index) ≡ get_or (listed image) index 0
slot_read image bytes index same below = rw same (sym (slot_at image index below))

-- the directory
pub no_directory : (image : List ℕ) → HeapAccepted image → directory_of image ≡ 0 → directory_bytes image ≡ []
unfolding directory_bytes bytes_under
no_directory image heap e = rw e (ap bytes_of (held-zero image heap))

pub directory_movable : (image : List ℕ) (name : ℕ) → HeapAccepted image → name ≡ directory_of image → name ≢ 0 → IsMovable image name
directory_movable image name heap is some = is_movable image name (record { heap = heap; owner = ap (owner_under image) is ∙ directory_owner image heap (omega arith) })

pub directory_read : (image bytes : List ℕ) (name : ℕ) → name ≡ directory_of image → bytes ≡ bytes_under image name → bytes ≡ directory_bytes image
unfolding directory_bytes
directory_read image bytes name is read = read ∙ ap (bytes_under image) is

-- a number stands at an index
pub listed_at : (image : List ℕ) (db : ℕ) → HasNumber image db → (index : ℕ) × IsListedAt image db index
listed_at image db has =
    let there = contained-times db (listed image) (number_listed image db has) in
    (there.0, record { inside = there.1; there = sym (get_or_default_zero (listed image) there.0 db there.1) ∙ there.2 })
