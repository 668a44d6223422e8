-- Entries of the databases of a store, with the chunks of their data: made, changed, moved and
-- dropped. And the effect of a call that makes one of these changes.
use Rattle.std.specs.Prelude.{◌≡◌, ◌≢◌, ◌≤◌, ◌<◌, ◌+◌, nat_lt, if◌then◌else◌, bit_or, ℕ, Bool, false, List, [], ◌∷◌, length, slice_get, slice_set, Option, Some, None, IsSome}
use Rattle.std.specs.List.{insert, remove}
use Rattle.heap_model.specs.Memory.{Memory}
use Rattle.heap_model.specs.Chunk.{fixed_lock, data_owner}
use Rattle.heap_model.specs.Slots.{tables_of}
use Rattle.heap_model.specs.Heap.{directory_of}
use Rattle.heap_model.specs.Meaning.{LiveChunk, ChunkMap}
use Rattle.heap_model.specs.Reading.{held}
use Rattle.heap_model.specs.Maps.{made, gone, reowned}
use Rattle.heap_model.specs.Space.{Still}
use Rattle.heap_model.specs.Lists.{Least}
use Rattle.heap_model.specs.DatabaseFields.{entry_size}
use Rattle.heap_model.specs.Database.{DatabaseHeader, Entry, a_record, a_resource, Database, entry_data, entry_with, has_resources}
use Rattle.heap_model.specs.UniqueIds.{IsFresh, seed_in, with_seed}
use Rattle.heap_model.specs.Store.{StoredDatabase, Store, bytes_under, unique_id, unique_ids, Accepted, store_of}
use Rattle.heap_model.specs.Rooms.{Part, making, growth_part}
use Rattle.heap_model.specs.Refusals.{Check, ◌brings◌}
use Rattle.heap_model.specs.MemorySteps.{Of, IsLocked, unknown, where_it}
use Rattle.heap_model.specs.StoreWords.{SameStore, with_changed, with_number, In, may_run_out, next_modification}
use Rattle.heap_model.specs.declared.names.Db.{Db}
use Rattle.heap_model.specs.declared.names.Name.{Name}
use Rattle.heap_model.specs.declared.entry.RecordInfo.{RecordInfo}
use Rattle.heap_model.specs.declared.entry.ResourceInfo.{ResourceInfo}
use Rattle.heap_model.specs.declared.entry.Entry as heard
use Rattle.heap_model.specs.declared.entry.Entry.TheVariants as entries
use Rattle.heap_model.specs.declared.call.Reply.{Reply}
use Rattle.heap_model.specs.declared.call.Reply.TheVariants as replies
use Rattle.heap_model.specs.declared.refusal.Refusal.TheVariants.{OwnedByDatabase, ChunkLocked, ChunkFixed, IndexOutOfRange, TooManyEntries}

-- ---- entries of a store

abbrev pub entries_of : Option StoredDatabase → List (Entry ℕ)
entries_of None = []
entries_of (Some one) = one.database.entries

-- the entries of a database; there are none if no database has the number
abbrev pub entries_in : Store → Db → List (Entry ℕ)
entries_in store db = entries_of (with_number store db.0)

-- the entry at an index, if there is one
abbrev pub entry_under : Store → Db → ℕ → Option (Entry ℕ)
entry_under store db index = slice_get (entries_in store db) index

-- there is an entry, and the predicate is true of it
abbrev pub OfEntry : Option (Entry ℕ) → (Entry ℕ → Type 0) → Type 0
OfEntry None P = ⊥
OfEntry (Some entry) P = P entry

abbrev pub data_of_entry : Option (Entry ℕ) → ℕ
data_of_entry None = 0
data_of_entry (Some entry) = entry_data entry

-- the name of an entry's data, or 0, which names nothing, if it has none
abbrev pub data_under : Store → Db → ℕ → ℕ
data_under store db index = data_of_entry (entry_under store db index)

abbrev pub holds_resources : Option StoredDatabase → Bool
holds_resources None = false
holds_resources (Some one) = has_resources one.database.header.attributes

-- a database has resources; otherwise it has records
abbrev pub resources_under : Store → Db → Bool
resources_under store db = holds_resources (with_number store db.0)

-- the ID is the one for a new record of the database
abbrev pub IsFreshIn : Store → Db → ℕ → Type 0
IsFreshIn store db id = In store db (λ database. IsFresh (unique_ids database) (seed_in database.header.seed) id)

-- ---- unique IDs

-- an entry that is a record with this unique ID
abbrev pub HasId : ℕ → Entry ℕ → Type 0
HasId id entry = unique_id entry ≡ Some id

-- another entry of the database has the ID
abbrev pub HasOther : Store → Db → ℕ → ℕ → Type 0
HasOther store db index id = (other : ℕ) × (other ≢ index) × OfEntry (entry_under store db other) (HasId id)

-- ---- the information that callers get on an entry

-- the name of a slot, or none for 0
abbrev pub IsNameOf : ℕ → Option Name → Type 0
IsNameOf slot None = slot ≡ 0
IsNameOf slot (Some name) = (0 < slot) × (name.0 ≡ slot)

-- the information is that of a record's entry; and below, of a resource's entry
abbrev pub IsInfoOf : RecordInfo → Entry ℕ → Type 0
IsInfoOf info (a_record attributes id slot) = (info.attributes ≡ attributes) × (info.id ≡ id) × IsNameOf slot info.«data»
IsInfoOf info (a_resource kind id slot) = ⊥

abbrev pub IsResourceInfoOf : ResourceInfo → Entry ℕ → Type 0
IsResourceInfoOf info (a_record attributes id slot) = ⊥
IsResourceInfoOf info (a_resource kind id slot) = (info.kind ≡ kind) × (info.id ≡ id) × (info.«data».0 ≡ slot)

-- the information is that of the entry
abbrev pub Tells : heard.Entry → Entry ℕ → Type 0
Tells (entries.Record info) entry = IsInfoOf info entry
Tells (entries.Resource info) entry = IsResourceInfoOf info entry

-- the information on a record, or on a resource, if it is on one
abbrev pub record_told : heard.Entry → Option RecordInfo
record_told (entries.Record info) = Some info
record_told (entries.Resource info) = None

abbrev pub resource_told : heard.Entry → Option ResourceInfo
resource_told (entries.Record info) = None
resource_told (entries.Resource info) = Some info

-- ---- which entries satisfy a predicate

-- from an index on, no entry satisfies the predicate
abbrev pub NoneFrom : Store → Db → ℕ → (Entry ℕ → Type 0) → Type 0
NoneFrom store db from P = (index : ℕ) → from ≤ index → OfEntry (entry_under store db index) P → ⊥

-- this is the first index, from an index on, whose entry satisfies the predicate
abbrev pub IsFirstFrom : Store → Db → ℕ → (Entry ℕ → Type 0) → ℕ → Type 0
IsFirstFrom store db from P index = Least (λ at. (from ≤ at) × OfEntry (entry_under store db at) P) index

-- ---- an entry that is made

abbrev pub made_at : (ℕ → Name → Type 0) → Reply → Memory → Type 0
made_at P (replies.Made index name) new = P index name
made_at P reply new = ⊥

-- the store after the call, if it depends on the index and the name in the reply
abbrev pub becomes_made : (ℕ → Name → Store → Store → Type 0) → Reply → Store → Store → Type 0
becomes_made P (replies.Made index name) old new = P index name old new
becomes_made P reply old new = ⊥

-- ---- entries changed

-- the greatest number of entries
abbrev pub most_entries : ℕ
most_entries = 65535

-- the index at which an entry is put in: if it is beyond the end, the entry comes last
abbrev pub index_for : ℕ → List (Entry ℕ) → ℕ
index_for at entries = if nat_lt at (length entries) then at else length entries

abbrev pub replaced_if : List (Entry ℕ) → ℕ → (Entry ℕ → Entry ℕ) → Option (Entry ℕ) → List (Entry ℕ)
replaced_if entries index change None = entries
replaced_if entries index change (Some entry) = slice_set entries index (change entry)

-- the entries with the one at an index changed, if there is one
abbrev pub replaced : List (Entry ℕ) → ℕ → (Entry ℕ → Entry ℕ) → List (Entry ℕ)
replaced entries index change = replaced_if entries index change (slice_get entries index)

-- a record with other attributes
abbrev pub with_attributes : (ℕ → ℕ) → Entry ℕ → Entry ℕ
with_attributes change (a_record attributes id slot) = a_record (change attributes) id slot
with_attributes change (a_resource kind id slot) = a_resource kind id slot

-- the bit of a deleted record
abbrev pub deleted_bit : ℕ
deleted_bit = 0x80

-- an entry without data; if it is a record, it is deleted then
abbrev pub without_data : Entry ℕ → Entry ℕ
without_data (a_record attributes id slot) = a_record (bit_or attributes deleted_bit) id 0
without_data (a_resource kind id slot) = a_resource kind id 0

-- the header of a database that got an entry: the ID of a record is the new seed
abbrev pub seeded_by : Entry ℕ → DatabaseHeader → DatabaseHeader
seeded_by (a_record attributes id slot) header = record header { seed = with_seed header.seed id }
seeded_by (a_resource kind id slot) header = header

-- a database that got an entry at an index
abbrev pub with_entry_at : ℕ → Entry ℕ → Database ℕ → Database ℕ
with_entry_at index entry database = record database { header = seeded_by entry database.header; entries = insert database.entries index entry }

-- a header whose modification number counts one call more
abbrev pub raised_header : DatabaseHeader → DatabaseHeader
raised_header header = record header { modification_number = next_modification header.modification_number }

-- ---- stores with them

-- a store with other entries in one database
abbrev pub with_entries : Store → Db → (List (Entry ℕ) → List (Entry ℕ)) → Store
with_entries store db change = record store {
  databases = with_changed store.databases db.0 (λ database. record database { entries = change database.entries });
}

-- a store with other chunks
abbrev pub with_chunks : Store → ChunkMap → Store
with_chunks store chunks = record store { map = chunks }

-- a store that got an entry, whose data is a new chunk of zeros
abbrev pub entry_made : Store → Db → ℕ → Entry ℕ → ℕ → Store
entry_made store db index entry size = record {
  map = made store.map (entry_data entry) size data_owner 0;
  databases = with_changed store.databases db.0 (with_entry_at index entry);
}

-- a store that got an entry, whose data is a chunk that was a caller's
abbrev pub entry_attached : Store → Db → ℕ → Entry ℕ → Store
entry_attached store db index entry = record {
  map = reowned store.map (entry_data entry) data_owner;
  databases = with_changed store.databases db.0 (with_entry_at index entry);
}

-- a store in which an entry is changed, and its data stays
abbrev pub entry_changed : Store → Db → ℕ → (Entry ℕ → Entry ℕ) → Store
entry_changed store db index change = with_entries store db (λ entries. replaced entries index change)

-- a store in which the data of an entry is freed
abbrev pub data_freed : Store → Db → ℕ → Store
data_freed store db index = with_chunks (entry_changed store db index without_data) (gone store.map (data_under store db index))

-- a store in which an entry is dropped, and its data is freed, if it has any
abbrev pub entry_dropped : Store → Db → ℕ → Store
entry_dropped store db index = with_chunks (with_entries store db (λ entries. remove entries index)) (gone store.map (data_under store db index))

-- a store in which an entry is dropped, and its data gets an owner
abbrev pub entry_handed_over : Store → Db → ℕ → ℕ → Store
entry_handed_over store db index owner = with_chunks (with_entries store db (λ entries. remove entries index)) (reowned store.map (data_under store db index) owner)

-- a map in which a chunk for data gets an owner, and a caller's chunk becomes one for data
abbrev pub data_exchanged : ChunkMap → ℕ → ℕ → ℕ → ChunkMap
data_exchanged map slot owner name = reowned (reowned map slot owner) name data_owner

-- A store in which an entry is changed, and a caller's chunk becomes its data. The chunk of its old
-- data gets an owner.
abbrev pub entry_swapped : Store → Db → ℕ → (Entry ℕ → Entry ℕ) → ℕ → ℕ → Store
entry_swapped store db index change name owner =
    with_chunks (entry_changed store db index (λ entry. entry_with (λ (slot : ℕ). name) (change entry))) (data_exchanged store.map (data_under store db index) owner name)

-- a store in which the modification number of a database counts one call more
abbrev pub raised : Store → Db → Store
raised store db = record store {
  databases = with_changed store.databases db.0 (λ database. record database { header = raised_header database.header });
}

-- ---- checks of an entry

abbrev pub no_entry : Store → Db → ℕ → Check
no_entry store db index = (length (entries_in store db) ≤ index) brings IndexOutOfRange

-- there is data, and it is locked
abbrev pub locked_entry : Store → Db → ℕ → Check
locked_entry store db index = Of (store.map (data_under store db index)) IsLocked brings ChunkLocked

-- ---- room for an entry

-- the database has `most_entries` entries or more
abbrev pub full : Store → Db → Check
full store db = (most_entries ≤ length (entries_in store db)) brings TooManyEntries

-- the header of a database grows by an entry
abbrev pub entry_growth : List ℕ → Store → Db → Part
entry_growth image store db = growth_part image db.0 (length (bytes_under image db.0) + entry_size (resources_under store db))

-- The checks for an entry with new data of `size` bytes: the data takes a chunk, and the header has
-- to grow.
abbrev pub making_checks : List ℕ → Store → Db → ℕ → List Check
making_checks image store db size = full store db ∷ may_run_out image 1 (making size ∷ entry_growth image store db ∷ []) ∷ []

-- The checks for an entry whose data is there already: only the header has to grow.
abbrev pub attaching_checks : List ℕ → Store → Db → List Check
attaching_checks image store db = full store db ∷ may_run_out image 0 (entry_growth image store db ∷ []) ∷ []

-- The checks for a caller's chunk that a database takes, by its name, and then other checks. The
-- chunk must be movable, and not one for data.
abbrev pub giving_checks : ChunkMap → ℕ → List Check → List Check
giving_checks map name others =
    unknown map name
    ∷ where_it map name (λ live. live.owner ≡ data_owner) OwnedByDatabase
    ∷ where_it map name (λ live. live.lock ≡ fixed_lock) ChunkFixed
    ∷ others

-- ---- the effect of a call

-- each chunk that stays has as many locks as before
abbrev pub KeepsLocks : List ℕ → List ℕ → Type 0
KeepsLocks old new = (name : ℕ) (before after : LiveChunk) → held old name ≡ Some before → held new name ≡ Some after → after.lock ≡ before.lock

-- no name is new
abbrev pub MakesNone : List ℕ → List ℕ → Type 0
MakesNone old new = (name : ℕ) → IsSome (held new name) → IsSome (held old name)

-- The new image is accepted and means this store. It is as long as the old one, and has the same
-- tables, so the same slots, and the same directory word. Each chunk that stays has as many locks as
-- before. If it is locked or fixed, it has not moved.
pub record LeavesStore (old new : List ℕ) (store : Store) : Type 0 where
  pub accepted : Accepted new
  pub same : SameStore (store_of new) store
  pub len : length new ≡ length old
  pub tables : tables_of new ≡ tables_of old
  pub directory : directory_of new ≡ directory_of old
  pub locks : KeepsLocks old new
  pub still : Still old new
