-- The information that callers give on an entry: a new one, or one that is set.
use Rattle.std.specs.Prelude.{◌≡◌, ◌<◌, ◌≤◌, ℕ, Bool, true, false, Option, Some, None}
use Rattle.heap_model.specs.Chunk.{managers_owner, data_owner}
use Rattle.heap_model.specs.Database.{Entry, a_record, a_resource, is_deleted}
use Rattle.heap_model.specs.UniqueIds.{greatest_id}
use Rattle.heap_model.specs.Store.{Store}
use Rattle.heap_model.specs.EntrySteps.{data_under, IsFreshIn, HasOther, entry_dropped, entry_handed_over}
use Rattle.heap_model.specs.declared.names.Db.{Db}
use Rattle.palm_store.specs.declared.entries.infos.EntryInfo as given
use Rattle.palm_store.specs.declared.entries.infos.EntryInfo.TheVariants as infos

abbrev pub EntryInfo : Type 0
EntryInfo = given.EntryInfo ℕ

-- ---- a new entry

abbrev pub NewEntry : Type 0
NewEntry = given.EntryInfo (Unit {0})

-- it is a resource; otherwise it is a record
abbrev pub makes_resource : NewEntry → Bool
makes_resource (infos.Record attributes none) = false
makes_resource (infos.Resource kind id) = true

-- this is the new entry, with its data under a slot; a record gets a fresh ID
abbrev pub IsMadeOf : Store → Db → NewEntry → ℕ → Entry ℕ → Type 0
IsMadeOf store db (infos.Record attributes none) slot entry = (id : ℕ) × IsFreshIn store db id × (entry ≡ a_record attributes id slot)
IsMadeOf store db (infos.Resource kind id) slot entry = entry ≡ a_resource kind id slot

-- ---- an entry that is set

-- an entry with this information, if it is of its kind, and with the data that it had
abbrev pub with_info : EntryInfo → Entry ℕ → Entry ℕ
with_info (infos.Record attributes id) (a_record old_attributes old_id slot) = a_record attributes id slot
with_info (infos.Record attributes id) (a_resource kind old_id slot) = a_resource kind old_id slot
with_info (infos.Resource kind id) (a_record attributes old_id slot) = a_record attributes old_id slot
with_info (infos.Resource kind id) (a_resource old_kind old_id slot) = a_resource kind id slot

-- a record's ID fits in its field
abbrev pub HasFittingInfo : EntryInfo → Type 0
HasFittingInfo (infos.Record attributes id) = id ≤ greatest_id
HasFittingInfo (infos.Resource kind id) = Unit {0}

-- An entry can have this information. It is for records, with an ID that no other record has, and
-- deleted if there is no data; or it is for resources.
abbrev pub CanHave : Store → Db → Bool → ℕ → EntryInfo → Type 0
CanHave store db resources index (infos.Record attributes id) =
    (resources ≡ false) × (0 < id) × (id ≤ greatest_id) × (HasOther store db index id → ⊥) × (data_under store db index ≡ 0 → is_deleted attributes ≡ true)
CanHave store db resources index (infos.Resource kind id) = resources ≡ true

-- ---- an entry that is dropped

-- an owner that a caller may give
abbrev pub MayOwn : ℕ → Type 0
MayOwn owner = (managers_owner < owner) × (owner < data_owner)

-- a store in which an entry is dropped, and its data is freed or gets an owner
abbrev pub dropped_to : Store → Db → ℕ → Option ℕ → Store
dropped_to store db index None = entry_dropped store db index
dropped_to store db index (Some owner) = entry_handed_over store db index owner
