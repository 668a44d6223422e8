-- The rows of the calls on resources: for each call its refusals, its replies and its effect.
use Rattle.std.specs.Prelude.{◌≡◌, ◌≤◌, ◌==◌, ℕ, Bool, true, false, [], ◌∷◌, length, take, count_by, None}
use Rattle.heap_model.specs.Memory.{Memory}
use Rattle.heap_model.specs.Reading.{held}
use Rattle.heap_model.specs.Maps.{sized}
use Rattle.heap_model.specs.Database.{Entry, a_record, a_resource, has_resources}
use Rattle.heap_model.specs.Store.{Store}
use Rattle.heap_model.specs.Refusals.{Check, ◌brings◌}
use Rattle.heap_model.specs.Steps.{Row, done, a_number, a_name}
use Rattle.heap_model.specs.MemorySteps.{no_owner, growth_checks}
use Rattle.heap_model.specs.StoreWords.{SameStore, In, no_database, read_only, becomes, stays}
use Rattle.heap_model.specs.EntrySteps.{entries_in, entry_under, OfEntry, data_under, IsResourceInfoOf, NoneFrom, IsFirstFrom, made_at, becomes_made, with_chunks, entry_made, entry_changed, entry_attached, entry_dropped, entry_handed_over, raised, no_entry, locked_entry, making_checks, attaching_checks, giving_checks}
use Rattle.heap_model.specs.declared.names.Db.{Db}
use Rattle.heap_model.specs.declared.names.Name.{Name}
use Rattle.heap_model.specs.declared.entry.ResourceInfo.{ResourceInfo}
use Rattle.heap_model.specs.declared.call.ResourceCall as given
use Rattle.heap_model.specs.declared.call.ResourceCall.TheVariants.{New, Attach, Detach, Remove, Resize, Info, SetInfo, Find, FindType, Count}
use Rattle.heap_model.specs.declared.call.Reply.{Reply}
use Rattle.heap_model.specs.declared.call.Reply.TheVariants as replies
use Rattle.heap_model.specs.declared.refusal.Refusal.TheVariants.{NotResourceDatabase, ResourceNotFound}

-- ---- calls

-- a call on resources; it gives chunks by their names and databases by their numbers
abbrev pub ResourceCall : Type 0
ResourceCall = given.ResourceCall Name Db

-- the same call, with its chunk and its database given in another way
abbrev pub resource_call : {One Other ThisOne ThisOther : Type 0} → (One → Other) → (ThisOne → ThisOther) → given.ResourceCall One ThisOne → given.ResourceCall Other ThisOther
resource_call chunk number (New db kind id size) = New (number db) kind id size
resource_call chunk number (Attach db kind id name) = Attach (number db) kind id (chunk name)
resource_call chunk number (Detach db index owner) = Detach (number db) index owner
resource_call chunk number (Remove db index) = Remove (number db) index
resource_call chunk number (Resize db index size) = Resize (number db) index size
resource_call chunk number (Info db index) = Info (number db) index
resource_call chunk number (SetInfo db index kind id) = SetInfo (number db) index kind id
resource_call chunk number (Find db kind id) = Find (number db) kind id
resource_call chunk number (FindType db kind nth) = FindType (number db) kind nth
resource_call chunk number (Count db) = Count (number db)

-- ---- types and ids

-- the entry is a resource of this type
abbrev pub has_type : ℕ → Entry ℕ → Bool
has_type given (a_record attributes id slot) = false
has_type given (a_resource kind id slot) = kind == given

-- the entry is a resource of this type and this ID
abbrev pub HasTypeAndId : ℕ → ℕ → Entry ℕ → Type 0
HasTypeAndId given number (a_record attributes id slot) = ⊥
HasTypeAndId given number (a_resource kind id slot) = (kind ≡ given) × (id ≡ number)

-- a resource with another type and ID
abbrev pub with_type_and_id : ℕ → ℕ → Entry ℕ → Entry ℕ
with_type_and_id given number (a_record attributes id slot) = a_record attributes id slot
with_type_and_id given number (a_resource kind id slot) = a_resource given number slot

-- ---- a check that rows share

abbrev pub no_resources : Store → Db → Check
no_resources store db = In store db (λ database. has_resources database.header.attributes ≡ false) brings NotResourceDatabase

-- ---- words of the answers

abbrev pub a_resource_info : (ResourceInfo → Type 0) → Reply → Memory → Type 0
a_resource_info P (replies.Resource info) new = P info
a_resource_info P reply new = ⊥

-- the entry of this index has the type, and `nth` entries before it have the type too
abbrev pub IsNthOfType : Store → Db → ℕ → ℕ → ℕ → Type 0
IsNthOfType store db kind nth index =
    OfEntry (entry_under store db index) (λ entry. has_type kind entry ≡ true) × (count_by (has_type kind) (take index (entries_in store db)) ≡ nth)

-- ---- the rows

-- the row of a call on a region that means a store
abbrev pub resource_row : Memory → Store → ResourceCall → Row Store
resource_row old store (New db kind id size) = record {
  only_asks = false;
  refusals = no_database store db ∷ no_resources store db ∷ read_only store db ∷ making_checks old.bytes store db size;
  answers = made_at (λ index name. (index ≡ length (entries_in store db)) × (held old.bytes name.0 ≡ None));
  effect = becomes_made
      (λ index name before after. SameStore after (raised (entry_made before db index (a_resource kind id name.0) size) db));
}
resource_row old store (Attach db kind id name) = record {
  only_asks = false;
  refusals =
      no_database store db
      ∷ no_resources store db
      ∷ read_only store db
      ∷ giving_checks store.map name.0 (attaching_checks old.bytes store db);
  answers = a_number (λ index. index ≡ length (entries_in store db));
  effect = becomes (λ before. raised (entry_attached before db (length (entries_in before db)) (a_resource kind id name.0)) db);
}
resource_row old store (Detach db index owner) = record {
  only_asks = false;
  refusals =
      no_database store db
      ∷ no_resources store db
      ∷ read_only store db
      ∷ no_entry store db index
      ∷ no_owner owner
      ∷ [];
  answers = a_name (λ name. name.0 ≡ data_under store db index);
  effect = becomes (λ before. raised (entry_handed_over before db index owner) db);
}
resource_row old store (Remove db index) = record {
  only_asks = false;
  refusals =
      no_database store db
      ∷ no_resources store db
      ∷ read_only store db
      ∷ no_entry store db index
      ∷ locked_entry store db index
      ∷ [];
  answers = done;
  effect = becomes (λ before. raised (entry_dropped before db index) db);
}
resource_row old store (Resize db index size) = record {
  only_asks = false;
  refusals =
      no_database store db
      ∷ no_resources store db
      ∷ read_only store db
      ∷ no_entry store db index
      ∷ growth_checks old store.map (data_under store db index) size;
  answers = done;
  effect = becomes (λ before. raised (with_chunks before (sized before.map (data_under before db index) size)) db);
}
resource_row old store (Info db index) = record {
  only_asks = true;
  refusals = no_database store db ∷ no_resources store db ∷ no_entry store db index ∷ [];
  answers = a_resource_info (λ info. OfEntry (entry_under store db index) (IsResourceInfoOf info));
  effect = stays;
}
resource_row old store (SetInfo db index kind id) = record {
  only_asks = false;
  refusals =
      no_database store db
      ∷ no_resources store db
      ∷ read_only store db
      ∷ no_entry store db index
      ∷ [];
  answers = done;
  effect = becomes (λ before. raised (entry_changed before db index (with_type_and_id kind id)) db);
}
resource_row old store (Find db kind id) = record {
  only_asks = true;
  refusals =
      no_database store db
      ∷ no_resources store db
      ∷ (NoneFrom store db 0 (HasTypeAndId kind id) brings ResourceNotFound)
      ∷ [];
  answers = a_number (IsFirstFrom store db 0 (HasTypeAndId kind id));
  effect = stays;
}
resource_row old store (FindType db kind nth) = record {
  only_asks = true;
  refusals =
      no_database store db
      ∷ no_resources store db
      ∷ ((count_by (has_type kind) (entries_in store db) ≤ nth) brings ResourceNotFound)
      ∷ [];
  answers = a_number (IsNthOfType store db kind nth);
  effect = stays;
}
resource_row old store (Count db) = record {
  only_asks = true;
  refusals = no_database store db ∷ no_resources store db ∷ [];
  answers = a_number (λ count. count ≡ length (entries_in store db));
  effect = stays;
}
