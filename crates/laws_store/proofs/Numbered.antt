-- The databases of an accepted image by their numbers: what stands under one, and that it is sound.
use Rattle.laws_store.proofs.Words.{◌≡◌, ℕ, ◌<◌, List, [], ◌∷◌, map, Option, Some, None, refl, sym, ap, subst, ◌∙◌, arith, rules, inl, inr, cases_eq, cases_lt, eq-eqb, ne_eqb, slice_get_within, get_or_from_slice_get, ◌==◌, IsSome, slice_get, find, managers_owner, data_owner, LiveChunk, held, times, Database, Entry, a_record, a_resource, entry_data, has_resources, EntryFits, IsSpelled, StoredDatabase, HasData, IsDatabase, owner_of, bytes_under, owner_under, listed, database_under, databases, IsHeaderSlot, Accepted, store_of, OfDatabase, with_number, In, entries_of, entries_in, entry_under, data_of_entry, data_under, holds_resources, resources_under, Db, NamesData, IsWhole, IsSound, database_here, SpellsHere, cond-true, cond-false}
use Rattle.laws_store.proofs.Times.{times-cons, same-yes, same-no, all-times}
use Rattle.laws_store.proofs.Counts.{has_databases}
use Rattle.laws_store.proofs.Owners.{owned_some}
use Rattle.laws_store.proofs.Found.{found_stands}

-- ---- the database of a number

found_under : (image : List ℕ) (slots : List ℕ) (db : ℕ) → 0 < times db slots
    → find (λ one. one.db == db) (map (database_under image) slots) ≡ Some (database_under image db)
found_under image [] db some = absurd (omega arith)
found_under image (slot ∷ slots) db some = elim (cases_eq slot db) [
  | inl e ↦ cond-true (slot == db) (Some (database_under image slot)) (find (λ one. one.db == db)
      (map (database_under image) slots)) (eq-eqb slot db e)
      ∙ ap (λ s. Some (database_under image s)) e
  | inr ne ↦
      let cons = times-cons db slot slots in
      let no = same-no slot db ne in
      cond-false (slot == db) (Some (database_under image slot)) (find (λ one. one.db == db) (map
      (database_under image) slots)) (ne_eqb slot db ne) ∙ found_under image slots db (omega arith)
]

none_under : (image : List ℕ) (slots : List ℕ) (db : ℕ) → times db slots ≡ 0
    → find (λ one. one.db == db) (map (database_under image) slots) ≡ None
none_under image [] db none = refl
none_under image (slot ∷ slots) db none =
    let cons = times-cons db slot slots in
    elim (cases_eq slot db) [
      | inl e ↦ let yes = same-yes slot db e in absurd (omega arith)
      | inr ne ↦
          let no = same-no slot db ne in
          cond-false (slot == db) (Some (database_under image slot)) (find (λ one. one.db == db)
          (map (database_under image) slots)) (ne_eqb slot db ne)
          ∙ none_under image slots db (omega arith)
    ]

pub with_number_is : (image : List ℕ) (db : ℕ) → 0 < times db (listed image)
    → with_number (store_of image) db ≡ Some (database_under image db)
unfolding store_of databases
with_number_is image db some = found_under image (listed image) db some

pub with_number_none : (image : List ℕ) (db : ℕ) → times db (listed image) ≡ 0
    → with_number (store_of image) db ≡ None
unfolding store_of databases
with_number_none image db none = none_under image (listed image) db none

nothing : (x : Option StoredDatabase) → x ≡ None → IsSome x → ⊥
nothing x e some = let no : IsSome {T = StoredDatabase} None = rw e at some in absurd cc

-- a number is listed, and what is listed is a number
pub number_listed : (image : List ℕ) (db : ℕ) → IsSome (with_number (store_of image) db)
    → 0 < times db (listed image)
number_listed image db has = elim (cases_lt 0 (times db (listed image))) [
  | inl some ↦ some
  | inr none ↦ absurd (nothing _ (with_number_none image db (omega arith)) has)
]

pub listed_number : (image : List ℕ) (db : ℕ) → 0 < times db (listed image)
    → IsSome (with_number (store_of image) db)
listed_number image db some = subst (λ (x : Option StoredDatabase). IsSome x)
    (sym (with_number_is image db some)) (search rules)

-- the database that is found is the one that is read under the number
pub number_here : (image : List ℕ) (db : ℕ) → IsSome (with_number (store_of image) db)
    → with_number (store_of image) db ≡ Some (database_under image db)
number_here image db has = with_number_is image db (number_listed image db has)

-- it stands at an index
pub number_stands : (image : List ℕ) (db : ℕ) → IsSome (with_number (store_of image) db)
    → (index : ℕ) × (slice_get (databases image) index ≡ Some (database_under image db))
unfolding store_of
number_stands image db has = (found_stands db (databases image) _ (number_here image db has)).1

-- ---- its chunk

-- the chunk under a number is the manager's, and isn't the directory
pub number_slot : (image : List ℕ) (db : ℕ) → Accepted image
    → IsSome (with_number (store_of image) db) → IsHeaderSlot image db
number_slot image db a has =
    all-times (IsHeaderSlot image) (listed image) a.headers db (number_listed image db has)

pub number_some : (image : List ℕ) (db : ℕ) → Accepted image
    → IsSome (with_number (store_of image) db) → 0 < db
number_some image db a has =
    let slot = number_slot image db a has in
    owned_some image db 0 a.heap slot.owner (omega arith)

pub owned_there : (image : List ℕ) (name : ℕ) → owner_under image name ≡ managers_owner
    → IsSome (held image name)
unfolding owner_under
owned_there image name own = by (held image name) own where
  by : (x : Option LiveChunk) → owner_of x ≡ 0 → IsSome x
  by None e = absurd (omega arith)
  by (Some live) e = search rules

pub number_held : (image : List ℕ) (db : ℕ) → Accepted image
    → IsSome (with_number (store_of image) db) → IsSome (held image db)
number_held image db a has = let slot = number_slot _ db a has in owned_there image db slot.owner

-- ---- what it spells

number_whole : (image : List ℕ) (db : ℕ) → Accepted image → IsSome (with_number (store_of image) db)
    → IsWhole image (database_under image db)
number_whole image db a has =
    let at = number_stands image db has in
    let one : StoredDatabase = database_under image db in
    subst (λ s. IsWhole image s) (get_or_from_slice_get (databases image) at.0 one one at.1)
    ((has_databases image a).each at.0 one (slice_get_within (databases image) at.0 one at.1))

pub number_spelled : (image : List ℕ) (db : ℕ) → Accepted image
    → IsSome (with_number (store_of image) db)
    → IsSpelled (database_here image db) (bytes_under image db)
number_spelled image db a has = (number_whole image db a has).spelled

-- a database of an accepted image is sound, and is spelled under its number
pub accepted_sound : (image : List ℕ) (db : ℕ) → Accepted image
    → IsSome (with_number (store_of image) db) → IsSound (database_here image db)
accepted_sound image db a has =
    let whole = number_whole image db a has in
    record { fits = whole.spelled.fits; entries = whole.entries; ids = whole.ids }

pub accepted_spells : (image : List ℕ) (db : ℕ) → Accepted image
    → IsSome (with_number (store_of image) db) → SpellsHere image db
accepted_spells image db a has =
    let slot = number_slot image db a has in
    record { heap = a.heap; owner = slot.owner; spelled = number_spelled image db a has }

-- ---- words of the store, where the number is that of a database

-- what the store says of the database holds of the one that is read, and the other way round
pub in_here : (image : List ℕ) (db : Db) (P : Database ℕ → Type 0)
    → IsSome (with_number (store_of image) db.0) → In (store_of image) db P
    → P (database_here image db.0)
in_here image db P has p = rw (number_here image db.0 has) at p

pub in_store : (image : List ℕ) (db : Db) (P : Database ℕ → Type 0)
    → IsSome (with_number (store_of image) db.0) → P (database_here image db.0)
    → In (store_of image) db P
in_store image db P has p =
    subst (λ (x : Option StoredDatabase). OfDatabase x P) (sym (number_here image db.0 has)) p

pub entries_here : (image : List ℕ) (db : Db) → IsSome (with_number (store_of image) db.0)
    → entries_in (store_of image) db ≡ (database_here image db.0).entries
entries_here image db has = ap entries_of (number_here image db.0 has)

pub entry_here : (image : List ℕ) (db : Db) (index : ℕ) → IsSome (with_number (store_of image) db.0)
    → entry_under (store_of image) db index ≡ slice_get (database_here image db.0).entries index
entry_here image db index has =
    ap (λ (entries : List (Entry ℕ)). slice_get entries index) (entries_here image db has)

pub data_here : (image : List ℕ) (db : Db) (index : ℕ) (e : Entry ℕ)
    → IsSome (with_number (store_of image) db.0)
    → slice_get (database_here image db.0).entries index ≡ Some e
    → data_under (store_of image) db index ≡ entry_data e
data_here image db index e has at = ap data_of_entry (entry_here image db index has ∙ at)

pub kind_here : (image : List ℕ) (db : Db) → IsSome (with_number (store_of image) db.0)
    → resources_under (store_of image) db
    ≡ has_resources (database_here image db.0).header.attributes
kind_here image db has = ap holds_resources (number_here image db.0 has)

-- ---- an entry of it

pub number_database : (image : List ℕ) (db : ℕ) → Accepted image
    → IsSome (with_number (store_of image) db) → IsDatabase image (database_under image db)
number_database image db a has =
    let at = number_stands image db has in
    let one : StoredDatabase = database_under image db in
    subst (λ s. IsDatabase image s) (get_or_from_slice_get (databases image) at.0 one one at.1)
    (a.each at.0 one (slice_get_within (databases image) at.0 one at.1))

data_owned : (image : List ℕ) (e : Entry ℕ) → HasData image e → 0 < entry_data e
    → owner_under image (entry_data e) ≡ data_owner
data_owned image (a_record attributes id slot) has some =
    elim has [ inl none ↦ absurd (let z = none.0 in omega arith) | inr own ↦ own ]
data_owned image (a_resource kind id slot) has some = has

-- the data of an entry is in a chunk for data
pub entry_owner : (image : List ℕ) (db index : ℕ) (e : Entry ℕ) → Accepted image
    → IsSome (with_number (store_of image) db)
    → slice_get (database_here image db).entries index ≡ Some e → 0 < entry_data e
    → owner_under image (entry_data e) ≡ data_owner
entry_owner image db index e a has at some =
    let entries : List (Entry ℕ) = (database_here image db).entries in
    let one = (number_database _ db a has).entries index e (slice_get_within entries index e at) in
    data_owned image e (rw (get_or_from_slice_get entries index e e at) at one) some

-- an entry of a sound database fits, and names data where it has to
pub entry_fits : (d : Database ℕ) (index : ℕ) (e : Entry ℕ) → IsSound d
    → slice_get d.entries index ≡ Some e → EntryFits (has_resources d.header.attributes) e
entry_fits d index e s at = rw (get_or_from_slice_get d.entries index e e at) at (s.fits.entries
    index e (slice_get_within d.entries index e at))

pub entry_names : (d : Database ℕ) (index : ℕ) (e : Entry ℕ) → IsSound d
    → slice_get d.entries index ≡ Some e → NamesData e
entry_names d index e s at = rw (get_or_from_slice_get d.entries index e e at) at (s.entries index e
    (slice_get_within d.entries index e at))
