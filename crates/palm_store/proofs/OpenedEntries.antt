-- The entries of an accepted image, by their indexes.
use Rattle.palm_store.proofs.Words.{◌≡◌, ℕ, ◌<◌, Bool, true, List, length, get_or, Option, Some, None, refl, sym, ap, ◌∙◌, slice_get_within, get_or_from_slice_get, IsSome, slice_get, Entry, a_record, a_resource, entry_data, EntryFits, has_resources, StoredDatabase, databases, IsDatabase, Accepted, store_of, with_number, entries_of, entry_under, OfEntry, holds_resources, resources_under, Tells, record_told, resource_told, Db, same_some, none_some, found_stands, entry_owner, are_resources, IsTold, IsOfKind, IsNamed}
use Rattle.std.specs.Prelude.{is_some}
use Rattle.heap_model.specs.declared.entry.RecordInfo.{RecordInfo}
use Rattle.heap_model.specs.declared.entry.ResourceInfo.{ResourceInfo}
use Rattle.heap_model.specs.declared.entry.Entry as heard
use Rattle.heap_model.specs.declared.entry.Entry.TheVariants as entries
use Rattle.laws_store.proofs.Numbered.{entry_here as entry_read}
use Rattle.palm_store.proofs.DataChunks.{for_data, data_callers}
use Rattle.palm_store.specs.declared.opening.EntryKind.{EntryKind}
use Rattle.palm_store.specs.declared.opening.EntryKind.TheVariants.{Records, Resources}
use Rattle.palm_store.proofs.TwoChanges.{is_there}

-- the database: the database of a number, which is whole
pub record Here (image : List ℕ) (db : ℕ) : Type 0 where
  pub one : StoredDatabase
  pub found : with_number (store_of image) db ≡ Some one
  pub number : one.db ≡ db
  pub index : ℕ
  pub inside : index < length (databases image)
  pub at : get_or (databases image) index one ≡ one
  pub whole : IsDatabase image one

pub here : (image : List ℕ) (db : ℕ) → Accepted image → IsSome (with_number (store_of image) db) → Here image db
unfolding store_of
here image db a has =
    let there = is_there (with_number (store_of image) db) has in
    let stands = found_stands db (databases image) there.0 there.1 in
    let inside = slice_get_within (databases image) stands.1.0 there.0 stands.1.1 in
    let is = get_or_from_slice_get (databases image) stands.1.0 there.0 there.0 stands.1.1 in
    record {
      one = there.0;
      found = there.1;
      number = stands.0;
      index = stands.1.0;
      inside = inside;
      at = is;
      whole = rw is at (a.each stands.1.0 there.0 inside);
    }

-- its entry of an index
pub entry_is : (image : List ℕ) (db : Db) (index : ℕ) (entry : Entry ℕ) (h : Here image db.0) → entry_under (store_of image) db index ≡ Some entry → slice_get h.one.database.entries index ≡ Some entry
entry_is image db index entry h e = sym (ap (λ (x : Option StoredDatabase). slice_get (entries_of x) index) h.found) ∙ e

pub of_all : (P : Entry ℕ → Type 0) (all : List (Entry ℕ)) (index : ℕ) (entry : Entry ℕ) → ((k : ℕ) (d : Entry ℕ) → k < length all → P (get_or all k d)) → slice_get all index ≡ Some entry → P entry
of_all P all index entry each e = rw (get_or_from_slice_get all index entry entry e) at (each index entry (slice_get_within all index entry e))

-- the entry
pub fits : (image : List ℕ) (db : Db) (resources : Bool) (index : ℕ) (entry : Entry ℕ) → Accepted image → IsSome (with_number (store_of image) db.0) → resources_under (store_of image) db ≡ resources → entry_under (store_of image) db index ≡ Some entry → EntryFits resources entry
fits image db resources index entry a has kind e =
    let h = here image db.0 a has in
    rw (sym (ap holds_resources h.found) ∙ kind) at (of_all (λ (x : Entry ℕ). EntryFits (has_resources h.one.database.header.attributes) x) h.one.database.entries index entry h.whole.spelled.fits.entries (entry_is image db index entry h e))

-- callers may name its data
pub data_named : (image : List ℕ) (db : Db) (index : ℕ) (entry : Entry ℕ) → Accepted image → IsSome (with_number (store_of image) db.0) → entry_under (store_of image) db index ≡ Some entry → 0 < entry_data entry → IsNamed image (entry_data entry)
unfolding store_of
data_named image db index entry a has e some =
    let own = entry_owner image db.0 index entry a has (sym (entry_read image db index has) ∙ e) some in
    ap is_some (data_callers image (entry_data entry) (for_data image (entry_data entry) own))

-- what is told of it is of the kind that the database holds
pub told_kind : (image : List ℕ) (db : Db) (kind : EntryKind) (index : ℕ) (told : heard.Entry) → Accepted image → IsSome (with_number (store_of image) db.0) → resources_under (store_of image) db ≡ are_resources kind → IsTold image db index told → IsOfKind kind told
told_kind image db kind index told a has is tells = by kind told (entry_under (store_of image) db index) (λ entry e. fits image db (are_resources kind) index entry a has is e) refl tells where
  by : (kind : EntryKind) (told : heard.Entry) (x : Option (Entry ℕ)) → ((entry : Entry ℕ) → entry_under (store_of image) db index ≡ Some entry → EntryFits (are_resources kind) entry) → entry_under (store_of image) db index ≡ x → OfEntry x (Tells told) → IsOfKind kind told
  by kind told None fit e p = absurd p
  by Records (entries.Record info) (Some entry) fit e p = tt
  by Records (entries.Resource info) (Some (a_record attributes id slot)) fit e p = p
  by Records (entries.Resource info) (Some (a_resource type id slot)) fit e p = fit (a_resource type id slot) e
  by Resources (entries.Record info) (Some (a_record attributes id slot)) fit e p = fit (a_record attributes id slot) e
  by Resources (entries.Record info) (Some (a_resource type id slot)) fit e p = p
  by Resources (entries.Resource info) (Some entry) fit e p = tt

-- what is told of entries of one kind
pub records_told : (entry : heard.Entry) → IsOfKind Records entry → is_some (record_told entry) ≡ true
records_told (entries.Record info) of = refl
records_told (entries.Resource info) of = absurd of

pub resources_told : (entry : heard.Entry) → IsOfKind Resources entry → is_some (resource_told entry) ≡ true
resources_told (entries.Record info) of = absurd of
resources_told (entries.Resource info) of = refl

pub as_record_told : (entry : heard.Entry) (info : RecordInfo) → record_told entry ≡ Some info → entry ≡ entries.Record info
as_record_told (entries.Record told) info is = ap entries.Record (same_some told info is)
as_record_told (entries.Resource told) info is = absurd (none_some None info refl is)

pub as_resource_told : (entry : heard.Entry) (info : ResourceInfo) → resource_told entry ≡ Some info → entry ≡ entries.Resource info
as_resource_told (entries.Record told) info is = absurd (none_some None info refl is)
as_resource_told (entries.Resource told) info is = ap entries.Resource (same_some told info is)
