-- All records of a database with other attributes are a change of the store.
use Rattle.palm_store.proofs.Words.{◌≡◌, ℕ, Bool, false, List, [], ◌∷◌, map, refl, sym, ap, ◌∙◌, arith, length-map, All, times, Entry, a_record, a_resource, Database, entry_data, has_resources, EntryFits, unique_id, Accepted, store_of, IsSound, NamesData, Respells, database_here, with_attributes, with_entries, resources_under, LeavesStore, Db, accepted_sound, kind_here, respell_steps, attributes_changed, HasNumber}
use Rattle.std.proofs.lemmas.List.Elements.{All-map, All-weaker}
use Rattle.std.specs.Prelude.{filter_map}
use Rattle.palm_store.specs.AttributeChanges.{MayChange}

-- the data and the IDs stay
data_kept : (change : ℕ → ℕ) (entries : List (Entry ℕ)) → map entry_data (map (with_attributes change) entries) ≡ map entry_data entries
data_kept change [] = refl
data_kept change (a_record attributes id slot ∷ entries) = ap (λ (names : List ℕ). slot ∷ names) (data_kept change entries)
data_kept change (a_resource kind id slot ∷ entries) = ap (λ (names : List ℕ). slot ∷ names) (data_kept change entries)

pub ids_kept : (change : ℕ → ℕ) (entries : List (Entry ℕ)) → filter_map unique_id (map (with_attributes change) entries) ≡ filter_map unique_id entries
ids_kept change [] = refl
ids_kept change (a_record attributes id slot ∷ entries) = ap (λ (ids : List ℕ). id ∷ ids) (ids_kept change entries)
ids_kept change (a_resource kind id slot ∷ entries) = ids_kept change entries

-- each entry fits, and has data if it is not deleted
one_fits : (change : ℕ → ℕ) (entry : Entry ℕ) (resources : Bool) → MayChange change → EntryFits resources entry → EntryFits resources (with_attributes change entry)
one_fits change (a_record attributes id slot) false may fits = (may.fits attributes fits.0, fits.1, fits.2)
one_fits change entry resources may fits = fits

one_names : (change : ℕ → ℕ) (entry : Entry ℕ) → MayChange change → NamesData entry → NamesData (with_attributes change entry)
one_names change (a_record attributes id slot) may names = λ none. may.deleted attributes (names none)
one_names change (a_resource kind id slot) may names = names

each_changed : (P : Entry ℕ → Type 0) (change : ℕ → ℕ) (entries : List (Entry ℕ)) → ((entry : Entry ℕ) → P entry → P (with_attributes change entry)) → All P entries → All P (map (with_attributes change) entries)
each_changed P change entries one all = All-map P (with_attributes change) entries (All-weaker P (λ entry. P (with_attributes change entry)) one entries all)

changed_sound : (change : ℕ → ℕ) (d : Database ℕ) → MayChange change → IsSound d → IsSound (attributes_changed change d)
changed_sound change d may s = record {
  fits = record {
    name = s.fits.name;
    header = s.fits.header;
    app_info = s.fits.app_info;
    sort_info = s.fits.sort_info;
    entries = each_changed (EntryFits (has_resources d.header.attributes)) change d.entries (λ entry. one_fits change entry (has_resources d.header.attributes) may) s.fits.entries;
    entry_count = (let few = s.fits.entry_count in omega (arith, length-map d.entries (with_attributes change)));
  };
  entries = each_changed NamesData change d.entries (λ entry. one_names change entry may) s.entries;
  ids = record {
    none_zero = rw (ids_kept change d.entries) s.ids.none_zero;
    distinct = rw (ids_kept change d.entries) s.ids.distinct;
  };
}

pub attributes_steps : (old new : List ℕ) (db : Db) (change : ℕ → ℕ) → MayChange change → Accepted old → HasNumber old db.0 → Respells old new db.0 (attributes_changed change (database_here old db.0))
    → LeavesStore old new (with_entries (store_of old) db (map (with_attributes change)))
attributes_steps old new db change may a has l =
    let d : Database ℕ = database_here old db.0 in
    respell_steps old new db (attributes_changed change) a has l (changed_sound change d may (accepted_sound old db.0 a has)) refl
    (λ q some. ap (λ (names : List ℕ). times q (d.app_info ∷ d.sort_info ∷ names)) (data_kept change d.entries))

pub kind_of_records : (image : List ℕ) (db : Db) → HasNumber image db.0 → resources_under (store_of image) db ≡ false → false ≡ has_resources (database_here image db.0).header.attributes
kind_of_records image db has records = sym records ∙ kind_here image db has
