-- The entries of the database of a number, as its header spells them.
use Rattle.palm_store.proofs.Words.{◌≡◌, ℕ, ◌+◌, ◌<◌, ◌≤◌, ◌^◌, Bool, false, List, length, Option, Some, sym, ap, subst, ◌∙◌, arith, slice_get, u16_at, header_size, attributes_at, Entry, Database, database_in, entry_in, entry_count_in, resources_in, entry_offset, has_resources, EntryFits, bytes_under, Accepted, store_of, In, database_here, entries_in, OfEntry, resources_under, Db, offset_below, in_store, number_here, number_spelled, entries_here, kind_here, entry_fits, accepted_sound, accepted_spells, OpenDatabase, HasNumber, HasDatabase, IsOpened}
use Rattle.db_format.proofs.ViewLaws.{attributes_read, length-read, entry_read}
use Rattle.database_edits.specs.Opened.{IsOpenHere}
use Rattle.palm_store.proofs.Numbers.{number_shape}

pub attributes_in_store : (image body : List ℕ) (db : Db) (attributes : ℕ) → HasNumber image db.0 → body ≡ bytes_under image db.0 → attributes ≡ u16_at body attributes_at → In (store_of image) db (λ database. database.header.attributes ≡ attributes)
attributes_in_store image body db attributes has body_is is =
    in_store image db (λ (database : Database ℕ). database.header.attributes ≡ attributes) has
    (attributes_read (bytes_under image db.0) ∙ ap (λ (xs : List ℕ). u16_at xs attributes_at) (sym body_is) ∙ sym is)

pub count_here : (image body : List ℕ) (db : Db) → HasNumber image db.0 → body ≡ bytes_under image db.0 → length (entries_in (store_of image) db) ≡ entry_count_in body
count_here image body db has body_is = ap length (entries_here image db has) ∙ length-read (bytes_under image db.0) ∙ ap entry_count_in (sym body_is)

-- there are fewer than 65,536
pub count_fits : (image : List ℕ) (db : Db) → Accepted image → HasNumber image db.0 → length (entries_in (store_of image) db) < 2 ^ 16
count_fits image db a has =
    let spelled = number_spelled image db.0 a has in
    let few = spelled.fits.entry_count in
    let same = ap length (entries_here image db has) in
    omega arith

-- a database that is open in the store is open in the heap
pub opened_here : (image : List ℕ) (opened : OpenDatabase) → Accepted image → IsOpened image opened → IsOpenHere image opened
opened_here image opened a is = record {
  stands = is.chunk;
  spells = accepted_spells image opened.db.0 a is.number;
  count = is.count ∙ ap length (entries_here image opened.db is.number);
}

pub header_inside : (image body : List ℕ) (db : Db) → Accepted image → HasNumber image db.0 → body ≡ bytes_under image db.0 → header_size ≤ length body
header_inside image body db a has body_is = (let shape = number_shape image db.0 a has in subst (λ (xs : List ℕ). header_size ≤ length xs) (sym body_is) shape.header)

pub entry_inside : (image body : List ℕ) (db : Db) (index : ℕ) → Accepted image → HasNumber image db.0 → body ≡ bytes_under image db.0 → index < length (entries_in (store_of image) db) → entry_offset (resources_in body) (index + 1) ≤ length body
entry_inside image body db index a has body_is below =
    let count = count_here image body db has body_is in
    let ends : length body ≡ entry_offset (resources_in body) (entry_count_in body) = (let shape = number_shape image db.0 a has in subst (λ (xs : List ℕ). length xs ≡ entry_offset (resources_in xs) (entry_count_in xs)) (sym body_is) shape.ends) in
    let least = offset_below (resources_in body) index (entry_count_in body) (omega (arith, count, below)) in
    omega (arith, ends, least)

-- what is read at an index is the entry there
pub read_is : (image body : List ℕ) (db : Db) (index : ℕ) (entry : Entry ℕ) → HasNumber image db.0 → body ≡ bytes_under image db.0 → index < length (entries_in (store_of image) db) → entry ≡ entry_in body index → slice_get (database_here image db.0).entries index ≡ Some entry
read_is image body db index entry has body_is below is =
    let count = count_here image body db has body_is in
    ap (λ (xs : List ℕ). slice_get (database_in xs).entries index) (sym body_is) ∙ entry_read body index (omega (arith, count, below)) ∙ ap (λ (e : Entry ℕ). Some e) (sym is)

pub kind_is : (image body : List ℕ) (db : Db) (kind : Bool) → body ≡ bytes_under image db.0 → kind ≡ resources_in body → kind ≡ has_resources (database_here image db.0).header.attributes
kind_is image body db kind body_is is = is ∙ ap resources_in body_is ∙ ap has_resources (sym (attributes_read (bytes_under image db.0)))

-- an entry that stands there fits
pub fits_at : (image : List ℕ) (db : Db) (index : ℕ) (entry : Entry ℕ) (kind : Bool) → Accepted image → HasNumber image db.0 → slice_get (database_here image db.0).entries index ≡ Some entry → kind ≡ has_resources (database_here image db.0).header.attributes → EntryFits kind entry
fits_at image db index entry kind a has at is = subst (λ (resources : Bool). EntryFits resources entry) (sym is) (entry_fits (database_here image db.0) index entry (accepted_sound image db.0 a has) at)

pub of_entry : (o : Option (Entry ℕ)) (entry : Entry ℕ) (P : Entry ℕ → Type 0) → o ≡ Some entry → P entry → OfEntry o P
of_entry o entry P is p = subst (λ (x : Option (Entry ℕ)). OfEntry x P) (sym is) p

-- an entry that is equal to one that fits does too
pub fits_here : (change : Entry ℕ) (after : Entry ℕ) (kind resources : Bool) → kind ≡ resources → after ≡ change → EntryFits kind after → EntryFits resources change
fits_here change after kind resources same is fits = subst (λ (r : Bool). EntryFits r change) same (subst (λ (e : Entry ℕ). EntryFits kind e) is fits)

-- an index that is inside
pub index_below : (image : List ℕ) (db : Db) (index : ℕ) → HasNumber image db.0 → index < length (entries_in (store_of image) db) → index < length (database_here image db.0).entries
index_below image db index has below = subst (λ (entries : List (Entry ℕ)). index < length entries) (entries_here image db has) below

pub index_most : (image : List ℕ) (db : Db) (index : ℕ) → HasNumber image db.0 → index ≤ length (entries_in (store_of image) db) → index ≤ length (database_here image db.0).entries
index_most image db index has most = subst (λ (entries : List (Entry ℕ)). index ≤ length entries) (entries_here image db has) most

pub records_here : (image body : List ℕ) (db : Db) → HasNumber image db.0 → body ≡ bytes_under image db.0 → resources_under (store_of image) db ≡ false → resources_in body ≡ false
records_here image body db has body_is records = ap resources_in body_is ∙ ap has_resources (sym (attributes_read (bytes_under image db.0))) ∙ sym (kind_here image db has) ∙ records

-- a database that is read
pub read_here : (image body : List ℕ) (db : Db) (database : Database ℕ) → HasNumber image db.0 → body ≡ bytes_under image db.0 → database ≡ database_in body → HasDatabase image db.0 database
read_here image body db database has body_is is =
    number_here image db.0 has ∙ ap (λ (d : Database ℕ). Some (record { db = db.0; database = d })) (ap database_in (sym body_is) ∙ sym is)
