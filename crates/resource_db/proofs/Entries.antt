-- The resources of an accepted image, by their indexes.
use Rattle.resource_db.proofs.Words.{◌≡◌, ℕ, ◌<◌, List, Option, Some, None, refl, arith, IsSome, Entry, a_record, a_resource, HasData, Accepted, store_of, entry_under, OfEntry, IsResourceInfoOf, Db, here, entry_is, of_all}
use Rattle.heap_model.specs.StoreWords.{with_number}
use Rattle.heap_model.specs.declared.entry.ResourceInfo.{ResourceInfo}
use Rattle.laws_store.proofs.Owners.{owned_some}

-- what is told of a resource says what its entry is
pub info_is : (x : Option (Entry ℕ)) (info : ResourceInfo) → OfEntry x (IsResourceInfoOf info) → x ≡ Some (a_resource info.kind info.id info.«data».0)
info_is None info p = absurd p
info_is (Some (a_record attributes id slot)) info p = absurd p
info_is (Some (a_resource kind id slot)) info p = rw (p.0, p.1, p.2) refl

-- it has data
pub has_data : (image : List ℕ) (db : Db) (index kind id slot : ℕ) → Accepted image → IsSome (with_number (store_of image) db.0) → entry_under (store_of image) db index ≡ Some (a_resource kind id slot) → 0 < slot
has_data image db index kind id slot a has e =
    let h = here image db.0 a has in
    owned_some image slot 15 a.heap (of_all (HasData image) h.one.database.entries index (a_resource kind id slot) h.whole.entries (entry_is image db index (a_resource kind id slot) h e)) (omega arith)
