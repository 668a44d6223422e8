-- A database stays open while a call changes fields of its entries.
use Rattle.palm_store.proofs.Words.{◌≡◌, ℕ, Bool, true, false, List, length, map, Option, Some, None, refl, sym, ap, ◌∙◌, length-map, length-set, ◌==◌, slice_get, find, Database, Entry, StoredDatabase, Store, Accepted, store_of, SameStore, with_number, entries_of, raised_header, replaced, replaced_if, with_attributes, with_entries, data_freed, without_data, Db, StandsAs, OpenDatabase, raised_if, IsOpened}
use Rattle.std.specs.Prelude.{is_some}
use Rattle.palm_store.proofs.EntriesChanged.{with_list, found_changed}
use Rattle.palm_store.proofs.OpenedEntries.{here}

-- these have a database of the number with this many entries
record HasMany (stored : List StoredDatabase) (db : Db) (many : ℕ) : Type 0 where
  one : StoredDatabase
  found : find (λ other. other.db == db.0) stored ≡ Some one
  long : length one.database.entries ≡ many

raised_has : (counts : Bool) (store : Store) (db : Db) (many : ℕ) → HasMany store.databases db many → HasMany (raised_if counts store db).databases db many
raised_has true store db many has = record {
  one = _;
  found = found_changed db.0 (λ (d : Database ℕ). record d { header = raised_header d.header }) store.databases has.one has.found;
  long = has.long;
}
raised_has false store db many has = has

-- entries that are changed are as many as they were
changed_has : (image : List ℕ) (opened : OpenDatabase) (change : List (Entry ℕ) → List (Entry ℕ)) → ((entries : List (Entry ℕ)) → length (change entries) ≡ length entries) → Accepted image → IsOpened image opened
    → HasMany (with_entries (store_of image) opened.db change).databases opened.db opened.entry_count
changed_has image opened change long a is =
    let h = here image opened.db.0 a is.number in
    record {
      one = _;
      found = found_changed opened.db.0 (with_list change) (store_of image).databases h.one h.found;
      long = long h.one.database.entries ∙ sym (is.count ∙ ap (λ (x : Option StoredDatabase). length (entries_of x)) h.found);
    }

stays_open : (new : List ℕ) (opened : OpenDatabase) (store : Store) → StandsAs new opened.db.0 opened.chunk → SameStore (store_of new) store → HasMany store.databases opened.db opened.entry_count → IsOpened new opened
stays_open new opened store stands same has =
    let now : with_number (store_of new) opened.db.0 ≡ Some has.one = rw same.databases has.found in
    record { number = ap is_some now; chunk = stands; count = sym has.long ∙ sym (ap (λ (x : Option StoredDatabase). length (entries_of x)) now) }

pub open_with_attributes : (image new : List ℕ) (opened : OpenDatabase) (change : ℕ → ℕ) → Accepted image → IsOpened image opened → StandsAs new opened.db.0 opened.chunk
    → SameStore (store_of new) (with_entries (store_of image) opened.db (map (with_attributes change))) → IsOpened new opened
open_with_attributes image new opened change a is stands same =
    stays_open new opened (with_entries (store_of image) opened.db (map (with_attributes change))) stands same
    (changed_has image opened (map (with_attributes change)) (λ entries. length-map entries (with_attributes change)) a is)

length-replaced : (entries : List (Entry ℕ)) (index : ℕ) (change : Entry ℕ → Entry ℕ) → length (replaced entries index change) ≡ length entries
length-replaced entries index change = by (slice_get entries index) where
  by : (x : Option (Entry ℕ)) → length (replaced_if entries index change x) ≡ length entries
  by None = refl
  by (Some entry) = length-set entries index (change entry)

pub open_without_data : (counts : Bool) (image new : List ℕ) (opened : OpenDatabase) (index : ℕ) → Accepted image → IsOpened image opened → StandsAs new opened.db.0 opened.chunk
    → SameStore (store_of new) (raised_if counts (data_freed (store_of image) opened.db index) opened.db) → IsOpened new opened
open_without_data counts image new opened index a is stands same =
    let changed = changed_has image opened (λ entries. replaced entries index without_data) (λ entries. length-replaced entries index without_data) a is in
    stays_open new opened (raised_if counts (data_freed (store_of image) opened.db index) opened.db) stands same (raised_has counts (data_freed (store_of image) opened.db index) opened.db opened.entry_count changed)
