-- The first checks of the calls on entries, and the information on an entry.
use Rattle.std.specs.Prelude.{◌≡◌, ◌<◌, not, ℕ, Bool, true, false, List, [], ◌∷◌, length, IsSome}
use Rattle.heap_model.specs.MemorySteps.{Of, IsLocked}
use Rattle.heap_model.specs.Database.{has_resources, is_read_only}
use Rattle.heap_model.specs.Store.{Store, store_of}
use Rattle.heap_model.specs.Refusals.{Check, ◌brings◌}
use Rattle.heap_model.specs.StoreWords.{In, no_database, read_only}
use Rattle.heap_model.specs.EntrySteps.{entry_under, OfEntry, Tells, no_entry}
use Rattle.heap_model.specs.declared.names.Db.{Db}
use Rattle.heap_model.specs.declared.entry.Entry as heard
use Rattle.heap_model.specs.declared.entry.Entry.TheVariants as entries
use Rattle.heap_model.specs.declared.refusal.Refusal.{Refusal}
use Rattle.heap_model.specs.declared.refusal.Refusal.TheVariants.{NotRecordDatabase, NotResourceDatabase, ReadOnly}
use Rattle.database_edits.specs.declared.opened.OpenDatabase.{OpenDatabase}
use Rattle.palm_store.specs.Databases.{HasNumber}
use Rattle.palm_store.specs.Opened.{IsOpened}
use Rattle.palm_store.specs.EntryCalls.{entries_of_image, resources_of_image}
use Rattle.palm_store.specs.declared.opening.Access.{Access}
use Rattle.palm_store.specs.declared.opening.Access.TheVariants.{Read, Write}
use Rattle.palm_store.specs.declared.opening.EntryKind.{EntryKind}
use Rattle.palm_store.specs.declared.opening.EntryKind.TheVariants.{Records, Resources}

-- ---- kinds of entries

abbrev pub are_resources : EntryKind → Bool
are_resources Records = false
are_resources Resources = true

-- the refusal of a call on entries of a kind, if there are entries of the other kind
abbrev pub wrong_kind : EntryKind → Refusal
wrong_kind Records = NotRecordDatabase
wrong_kind Resources = NotResourceDatabase

-- a database with these attributes has entries of the other kind
abbrev pub HasOtherKind : ℕ → EntryKind → Type 0
HasOtherKind attributes kind = has_resources attributes ≡ not (are_resources kind)

-- ---- checks

-- the checks of the attributes of a database: a call that writes makes one more
abbrev pub attribute_checks : ℕ → EntryKind → Access → List Check
attribute_checks attributes kind Read = (HasOtherKind attributes kind brings wrong_kind kind) ∷ []
attribute_checks attributes kind Write = (HasOtherKind attributes kind brings wrong_kind kind) ∷ ((is_read_only attributes ≡ true) brings ReadOnly) ∷ []

abbrev pub other_kind : Store → Db → EntryKind → Check
other_kind store db kind = In store db (λ database. HasOtherKind database.header.attributes kind) brings wrong_kind kind

-- the checks of a database, and other checks after them
abbrev pub opening_checks : List ℕ → Db → EntryKind → Access → List Check → List Check
opening_checks image db kind Read others = no_database (store_of image) db ∷ other_kind (store_of image) db kind ∷ others
opening_checks image db kind Write others = no_database (store_of image) db ∷ other_kind (store_of image) db kind ∷ read_only (store_of image) db ∷ others

-- the checks of an entry at an index
abbrev pub finding_checks : List ℕ → Db → ℕ → EntryKind → Access → List Check
finding_checks image db index kind access = opening_checks image db kind access (no_entry (store_of image) db index ∷ [])

-- ---- an entry of the image

-- The database of this number was opened. It has entries of the kind, and one at the index.
pub record IsFoundAt (image : List ℕ) (number : Db) (index : ℕ) (asked : EntryKind) (database : OpenDatabase) : Type 0 where
  pub known : HasNumber image number.0
  pub kind : resources_of_image image number ≡ are_resources asked
  pub inside : index < length (entries_of_image image number)
  pub opened : IsOpened image database
  pub db : database.db ≡ number

-- the information is that of the entry at an index
abbrev pub IsTold : List ℕ → Db → ℕ → heard.Entry → Type 0
IsTold image db index entry = OfEntry (entry_under (store_of image) db index) (Tells entry)

-- the information is on a record, or on a resource, as the kind is
abbrev pub IsOfKind : EntryKind → heard.Entry → Type 0
IsOfKind Records (entries.Record info) = Unit {0}
IsOfKind Records (entries.Resource info) = ⊥
IsOfKind Resources (entries.Record info) = ⊥
IsOfKind Resources (entries.Resource info) = Unit {0}

-- callers may name a chunk by this name
abbrev pub IsNamed : List ℕ → ℕ → Type 0
IsNamed image name = IsSome ((store_of image).map name)

-- callers may name a chunk by this name, and it is locked
abbrev pub IsLockedChunk : List ℕ → ℕ → Type 0
IsLockedChunk image name = Of ((store_of image).map name) IsLocked
