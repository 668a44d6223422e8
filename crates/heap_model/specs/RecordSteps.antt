-- The rows of the calls on records: for each call its refusals, its replies and its effect.
use Rattle.std.specs.Prelude.{◌≡◌, ◌≢◌, ◌≤◌, ◌<◌, ◌%◌, ◌^◌, ◌⊎◌, ◌==◌, if◌then◌else◌, bit_and, bit_or, ℕ, Bool, true, false, [], ◌∷◌, length, take, map, count_by, None}
use Rattle.std.specs.Int.{bit_at}
use Rattle.heap_model.specs.Memory.{Memory}
use Rattle.heap_model.specs.Reading.{held}
use Rattle.heap_model.specs.Maps.{sized}
use Rattle.heap_model.specs.Lists.{moved}
use Rattle.heap_model.specs.Database.{Entry, a_record, a_resource, has_resources, is_deleted}
use Rattle.heap_model.specs.Store.{Store}
use Rattle.heap_model.specs.Refusals.{Check, ◌brings◌}
use Rattle.heap_model.specs.Steps.{Row, done, a_number, a_name}
use Rattle.heap_model.specs.MemorySteps.{Of, IsLocked, no_owner, growth_checks}
use Rattle.heap_model.specs.StoreWords.{SameStore, all_gone, In, no_database, read_only, becomes, stays}
use Rattle.heap_model.specs.EntrySteps.{entries_in, entry_under, OfEntry, data_under, IsFreshIn, HasId, HasOther, IsInfoOf, NoneFrom, IsFirstFrom, made_at, becomes_made, index_for, with_attributes, deleted_bit, with_entries, with_chunks, entry_made, entry_changed, data_freed, entry_attached, entry_dropped, entry_handed_over, entry_swapped, raised, no_entry, locked_entry, making_checks, attaching_checks, giving_checks}
use Rattle.heap_model.specs.Categories.{categories, all_categories, is_of, IsOf, data_of_category, dirty_bit, moved_category, deleted_category}
use Rattle.heap_model.specs.declared.names.Db.{Db}
use Rattle.heap_model.specs.declared.names.Name.{Name}
use Rattle.heap_model.specs.declared.entry.RecordInfo.{RecordInfo}
use Rattle.heap_model.specs.declared.call.RecordCall as given
use Rattle.heap_model.specs.declared.call.RecordCall.TheVariants.{New, Delete, Archive, Remove, Move, Get, Query, Release, Info, Resize, Count, Attach, AttachReplacing, Detach, SetInfo, FindById, CountInCategory, NextInCategory, PositionInCategory, MoveCategory, DeleteCategory}
use Rattle.heap_model.specs.declared.call.Reply.{Reply}
use Rattle.heap_model.specs.declared.call.Reply.TheVariants as replies
use Rattle.heap_model.specs.declared.refusal.Refusal.TheVariants.{ChunkLocked, NotRecordDatabase, IndexOutOfRange, RecordDeleted, RecordBusy, InvalidCategory, DuplicateId, UniqueIdNotFound}

-- ---- calls

-- a call on records; it gives chunks by their names and databases by their numbers
abbrev pub RecordCall : Type 0
RecordCall = given.RecordCall Name Db

-- the same call, with its chunk and its database given in another way
abbrev pub record_call : {One Other ThisOne ThisOther : Type 0} → (One → Other) → (ThisOne → ThisOther) → given.RecordCall One ThisOne → given.RecordCall Other ThisOther
record_call chunk number (New db at size) = New (number db) at size
record_call chunk number (Delete db index) = Delete (number db) index
record_call chunk number (Archive db index) = Archive (number db) index
record_call chunk number (Remove db index) = Remove (number db) index
record_call chunk number (Move db from to) = Move (number db) from to
record_call chunk number (Get db index) = Get (number db) index
record_call chunk number (Query db index) = Query (number db) index
record_call chunk number (Release db index dirty) = Release (number db) index dirty
record_call chunk number (Info db index) = Info (number db) index
record_call chunk number (Resize db index size) = Resize (number db) index size
record_call chunk number (Count db) = Count (number db)
record_call chunk number (Attach db at name) = Attach (number db) at (chunk name)
record_call chunk number (AttachReplacing db index name owner) = AttachReplacing (number db) index (chunk name) owner
record_call chunk number (Detach db index owner) = Detach (number db) index owner
record_call chunk number (SetInfo db index attributes id) = SetInfo (number db) index attributes id
record_call chunk number (FindById db id) = FindById (number db) id
record_call chunk number (CountInCategory db category) = CountInCategory (number db) category
record_call chunk number (NextInCategory db from category) = NextInCategory (number db) from category
record_call chunk number (PositionInCategory db index category) = PositionInCategory (number db) index category
record_call chunk number (MoveCategory db to from dirty) = MoveCategory (number db) to from dirty
record_call chunk number (DeleteCategory db category) = DeleteCategory (number db) category

-- ---- attributes

-- the bit of a busy record
abbrev pub busy_bit : ℕ
busy_bit = 0x20

-- a record with these attributes is busy: 0x20 is set
abbrev pub is_busy : ℕ → Bool
is_busy attributes = bit_at attributes 5 == 1

-- the attributes of a new record: dirty and busy, of category 0
abbrev pub new_attributes : ℕ
new_attributes = 0x60

-- a record's attributes, no longer busy, and dirty if the call says so
abbrev pub released : Bool → ℕ → ℕ
released dirty attributes = if dirty then bit_or (bit_and attributes 0xDF) dirty_bit else bit_and attributes 0xDF

-- The attributes of a record that is given others. It stays deleted and busy as it was. All other
-- bits are the given ones.
abbrev pub attributes_set : ℕ → ℕ → ℕ
attributes_set given attributes = bit_or (bit_and attributes 0xA0) (bit_and given 0x5F)

-- ---- unique IDs

-- the unique ID in a number: its low 24 bits
abbrev pub id_in : ℕ → ℕ
id_in number = number % 2 ^ 24

-- the unique ID of a record that is given a number; if the number is 0, the record keeps its ID
abbrev pub id_set : ℕ → ℕ → ℕ
id_set number id = if id_in number == 0 then id else id_in number

-- a record that is given attributes and a number
abbrev pub with_record_info : ℕ → ℕ → Entry ℕ → Entry ℕ
with_record_info given number (a_record attributes id slot) = a_record (attributes_set given attributes) (id_set number id) slot
with_record_info given number (a_resource kind id slot) = a_resource kind id slot

-- ---- words of the checks

abbrev pub HasAttributes : (ℕ → Bool) → Entry ℕ → Type 0
HasAttributes test (a_record attributes id slot) = test attributes ≡ true
HasAttributes test (a_resource kind id slot) = ⊥

-- ---- checks that rows share

abbrev pub no_records : Store → Db → Check
no_records store db = In store db (λ database. has_resources database.header.attributes ≡ true) brings NotRecordDatabase

abbrev pub deleted : Store → Db → ℕ → Check
deleted store db index = OfEntry (entry_under store db index) (HasAttributes is_deleted) brings RecordDeleted

abbrev pub busy : Store → Db → ℕ → Check
busy store db index = OfEntry (entry_under store db index) (HasAttributes is_busy) brings RecordBusy

-- No category has this number. For calls that count or search, `no_categories` also accepts the
-- number that means all categories.
abbrev pub no_category : ℕ → Check
no_category category = (categories ≤ category) brings InvalidCategory

abbrev pub no_categories : ℕ → Check
no_categories category = ((categories ≤ category) × (category ≢ all_categories)) brings InvalidCategory

-- a record of the category has locked data
abbrev pub HasLockedOf : Store → Db → ℕ → Type 0
HasLockedOf store db category =
    (index : ℕ) × OfEntry (entry_under store db index) (IsOf category) × Of (store.map (data_under store db index)) IsLocked

-- ---- words of the answers

abbrev pub a_record_info : (RecordInfo → Type 0) → Reply → Memory → Type 0
a_record_info P (replies.Record info) new = P info
a_record_info P reply new = ⊥

-- ---- words of the effects

-- a store in which the records of a category are deleted, and their data freed
abbrev pub category_deleted : Store → Db → ℕ → Store
category_deleted store db category =
    with_chunks (with_entries store db (map (deleted_category category))) (all_gone store.map (data_of_category category (entries_in store db)))

-- ---- the rows

-- the row of a call on a region that means a store
abbrev pub record_row : Memory → Store → RecordCall → Row Store
record_row old store (New db at size) = record {
  only_asks = false;
  refusals = no_database store db ∷ no_records store db ∷ read_only store db ∷ making_checks old.bytes store db size;
  answers = made_at (λ index name. (index ≡ index_for at (entries_in store db)) × (held old.bytes name.0 ≡ None));
  effect = becomes_made
      (λ index name before after. (id : ℕ) × IsFreshIn before db id × SameStore after (raised (entry_made before db index (a_record new_attributes id name.0) size) db));
}
record_row old store (Delete db index) = record {
  only_asks = false;
  refusals =
      no_database store db
      ∷ no_records store db
      ∷ read_only store db
      ∷ no_entry store db index
      ∷ deleted store db index
      ∷ locked_entry store db index
      ∷ [];
  answers = done;
  effect = becomes (λ before. raised (data_freed before db index) db);
}
record_row old store (Archive db index) = record {
  only_asks = false;
  refusals =
      no_database store db
      ∷ no_records store db
      ∷ read_only store db
      ∷ no_entry store db index
      ∷ deleted store db index
      ∷ [];
  answers = done;
  effect = becomes (λ before. raised (entry_changed before db index (with_attributes (λ attributes. bit_or attributes deleted_bit))) db);
}
record_row old store (Remove db index) = record {
  only_asks = false;
  refusals =
      no_database store db
      ∷ no_records store db
      ∷ read_only store db
      ∷ no_entry store db index
      ∷ locked_entry store db index
      ∷ [];
  answers = done;
  effect = becomes (λ before. raised (entry_dropped before db index) db);
}
record_row old store (Move db from to) = record {
  only_asks = false;
  refusals =
      no_database store db
      ∷ no_records store db
      ∷ read_only store db
      ∷ (((length (entries_in store db) ≤ from) ⊎ (length (entries_in store db) < to)) brings IndexOutOfRange)
      ∷ [];
  answers = done;
  effect = becomes (λ before. raised (with_entries before db (λ entries. moved entries from to)) db);
}
record_row old store (Get db index) = record {
  only_asks = false;
  refusals =
      no_database store db
      ∷ no_records store db
      ∷ no_entry store db index
      ∷ deleted store db index
      ∷ busy store db index
      ∷ [];
  answers = a_name (λ name. name.0 ≡ data_under store db index);
  effect = becomes (λ before. entry_changed before db index (with_attributes (λ attributes. bit_or attributes busy_bit)));
}
record_row old store (Query db index) = record {
  only_asks = true;
  refusals =
      no_database store db
      ∷ no_records store db
      ∷ no_entry store db index
      ∷ deleted store db index
      ∷ [];
  answers = a_name (λ name. name.0 ≡ data_under store db index);
  effect = stays;
}
record_row old store (Release db index dirty) = record {
  only_asks = false;
  refusals = no_database store db ∷ no_records store db ∷ no_entry store db index ∷ [];
  answers = done;
  effect = becomes (λ before. entry_changed before db index (with_attributes (released dirty)));
}
record_row old store (Info db index) = record {
  only_asks = true;
  refusals = no_database store db ∷ no_records store db ∷ no_entry store db index ∷ [];
  answers = a_record_info (λ info. OfEntry (entry_under store db index) (IsInfoOf info));
  effect = stays;
}
record_row old store (Resize db index size) = record {
  only_asks = false;
  refusals =
      no_database store db
      ∷ no_records store db
      ∷ read_only store db
      ∷ no_entry store db index
      ∷ deleted store db index
      ∷ growth_checks old store.map (data_under store db index) size;
  answers = done;
  effect = becomes (λ before. raised (with_chunks before (sized before.map (data_under before db index) size)) db);
}
record_row old store (Count db) = record {
  only_asks = true;
  refusals = no_database store db ∷ no_records store db ∷ [];
  answers = a_number (λ count. count ≡ length (entries_in store db));
  effect = stays;
}
record_row old store (Attach db at name) = record {
  only_asks = false;
  refusals =
      no_database store db
      ∷ no_records store db
      ∷ read_only store db
      ∷ giving_checks store.map name.0 (attaching_checks old.bytes store db);
  answers = a_number (λ index. index ≡ index_for at (entries_in store db));
  effect = λ reply before after.
      (id : ℕ) × IsFreshIn before db id × SameStore after (raised (entry_attached before db (index_for at (entries_in before db)) (a_record dirty_bit id name.0)) db);
}
record_row old store (AttachReplacing db index name owner) = record {
  only_asks = false;
  refusals =
      no_database store db
      ∷ no_records store db
      ∷ read_only store db
      ∷ no_entry store db index
      ∷ deleted store db index
      ∷ giving_checks store.map name.0 (no_owner owner ∷ []);
  answers = a_name (λ old. old.0 ≡ data_under store db index);
  effect = becomes
      (λ before. raised (entry_swapped before db index (with_attributes (λ attributes. bit_or attributes dirty_bit)) name.0 owner) db);
}
record_row old store (Detach db index owner) = record {
  only_asks = false;
  refusals =
      no_database store db
      ∷ no_records store db
      ∷ read_only store db
      ∷ no_entry store db index
      ∷ deleted store db index
      ∷ no_owner owner
      ∷ [];
  answers = a_name (λ name. name.0 ≡ data_under store db index);
  effect = becomes (λ before. raised (entry_handed_over before db index owner) db);
}
record_row old store (SetInfo db index attributes id) = record {
  only_asks = false;
  refusals =
      no_database store db
      ∷ no_records store db
      ∷ read_only store db
      ∷ no_entry store db index
      ∷ (((id_in id ≢ 0) × HasOther store db index (id_in id)) brings DuplicateId)
      ∷ [];
  answers = done;
  effect = becomes (λ before. raised (entry_changed before db index (with_record_info attributes id)) db);
}
record_row old store (FindById db id) = record {
  only_asks = true;
  refusals =
      no_database store db
      ∷ no_records store db
      ∷ (NoneFrom store db 0 (HasId id) brings UniqueIdNotFound)
      ∷ [];
  answers = a_number (λ index. OfEntry (entry_under store db index) (HasId id));
  effect = stays;
}
record_row old store (CountInCategory db category) = record {
  only_asks = true;
  refusals = no_database store db ∷ no_records store db ∷ no_categories category ∷ [];
  answers = a_number (λ count. count ≡ count_by (is_of category) (entries_in store db));
  effect = stays;
}
record_row old store (NextInCategory db from category) = record {
  only_asks = true;
  refusals =
      no_database store db
      ∷ no_records store db
      ∷ no_categories category
      ∷ (NoneFrom store db from (IsOf category) brings IndexOutOfRange)
      ∷ [];
  answers = a_number (IsFirstFrom store db from (IsOf category));
  effect = stays;
}
record_row old store (PositionInCategory db index category) = record {
  only_asks = true;
  refusals = no_database store db ∷ no_records store db ∷ no_categories category ∷ no_entry store db index ∷ [];
  answers = a_number (λ count. count ≡ count_by (is_of category) (take index (entries_in store db)));
  effect = stays;
}
record_row old store (MoveCategory db to from dirty) = record {
  only_asks = false;
  refusals = no_database store db ∷ no_records store db ∷ read_only store db ∷ no_category to ∷ no_category from ∷ [];
  answers = done;
  effect = becomes (λ before. raised (with_entries before db (map (moved_category to from dirty))) db);
}
record_row old store (DeleteCategory db category) = record {
  only_asks = false;
  refusals =
      no_database store db
      ∷ no_records store db
      ∷ read_only store db
      ∷ no_category category
      ∷ (HasLockedOf store db category brings ChunkLocked)
      ∷ [];
  answers = done;
  effect = becomes (λ before. raised (category_deleted before db category) db);
}
