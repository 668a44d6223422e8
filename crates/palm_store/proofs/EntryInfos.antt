-- An entry with another info: it names the same data, and what the info has to be makes it sound.
use Rattle.palm_store.proofs.Words.{◌≡◌, ℕ, true, false, List, Option, Some, refl, sym, ap, subst, ◌∙◌, arith, slice_get, ◌==◌, bit_or, Entry, a_record, a_resource, entry_data, is_deleted, unique_id, Accepted, store_of, NamesData, database_here, resources_under, OfEntry, deleted_bit, without_data, Db, HasOwnId, accepted_sound, entry_here, kind_here, data_here, entry_fits, entry_names, HasNumber, EntryInfo, with_info, CanHave, HasFittingInfo}
use Rattle.std.proofs.lemmas.Nat.Bits.{bit_at_or, bit_at-lt, bit_at-pow_same}
use Rattle.std.specs.Int.{bit_at}
use Rattle.palm_store.specs.declared.entries.infos.EntryInfo.TheVariants as infos

pub fitting_info : (image : List ℕ) (db : Db) (index : ℕ) (info : EntryInfo) → CanHave (store_of image) db (resources_under (store_of image) db) index info → HasFittingInfo info
fitting_info image db index (infos.Record attributes id) can = can.2
fitting_info image db index (infos.Resource kind id) can = tt

pub informed_data : (info : EntryInfo) (entry : Entry ℕ) → entry_data (with_info info entry) ≡ entry_data entry
informed_data (infos.Record attributes id) (a_record old_attributes old_id slot) = refl
informed_data (infos.Resource kind id) (a_resource old_kind old_id slot) = refl
informed_data info entry = refl

pub informed_names : (image : List ℕ) (db : Db) (index : ℕ) (info : EntryInfo) (entry : Entry ℕ) → Accepted image → HasNumber image db.0 → slice_get (database_here image db.0).entries index ≡ Some entry → CanHave (store_of image) db (resources_under (store_of image) db) index info
    → NamesData (with_info info entry)
informed_names image db index (infos.Record attributes id) (a_record old_attributes old_id slot) a has at can = λ none. can.4 (data_here image db index (a_record old_attributes old_id slot) has at ∙ none)
informed_names image db index (infos.Resource kind id) (a_record attributes old_id slot) a has at can = entry_names (database_here image db.0) index (a_record attributes old_id slot) (accepted_sound image db.0 a has) at
informed_names image db index info entry a has at can = entry_names (database_here image db.0) index entry (accepted_sound image db.0 a has) at

pub informed_own : (image : List ℕ) (db : Db) (index : ℕ) (info : EntryInfo) (entry : Entry ℕ) → Accepted image → HasNumber image db.0 → slice_get (database_here image db.0).entries index ≡ Some entry → CanHave (store_of image) db (resources_under (store_of image) db) index info
    → HasOwnId (database_here image db.0).entries index (with_info info entry)
informed_own image db index (infos.Record attributes id) (a_record old_attributes old_id slot) a has at can =
    (can.1, λ other. can.3 (other.0, other.1, subst (λ (o : Option (Entry ℕ)). OfEntry o (λ entry. unique_id entry ≡ Some id)) (sym (entry_here image db other.0 has)) other.2))
informed_own image db index (infos.Resource kind id) (a_record attributes old_id slot) a has at can =
    absurd (rw (sym (kind_here image db has) ∙ can) at (entry_fits (database_here image db.0) index (a_record attributes old_id slot) (accepted_sound image db.0 a has) at))
informed_own image db index info entry a has at can = tt

-- an entry without data
emptied_bit : (attributes : ℕ) → is_deleted (bit_or attributes deleted_bit) ≡ true
emptied_bit attributes =
    let bit : bit_at (bit_or attributes 128) 7 ≡ 1 = (let both = bit_at_or attributes 128 7 in let here = bit_at-pow_same 7 in let low = bit_at-lt attributes 7 in omega arith) in
    ap (λ (b : ℕ). b == 1) bit

pub emptied_data : (entry : Entry ℕ) → entry_data (without_data entry) ≡ 0
emptied_data (a_record attributes id slot) = refl
emptied_data (a_resource kind id slot) = refl

pub emptied_id : (entry : Entry ℕ) → unique_id (without_data entry) ≡ unique_id entry
emptied_id (a_record attributes id slot) = refl
emptied_id (a_resource kind id slot) = refl

pub emptied_names : (image : List ℕ) (db : Db) (index : ℕ) (entry : Entry ℕ) → Accepted image → HasNumber image db.0 → slice_get (database_here image db.0).entries index ≡ Some entry → resources_under (store_of image) db ≡ false → NamesData (without_data entry)
emptied_names image db index (a_record attributes id slot) a has at records = λ none. emptied_bit attributes
emptied_names image db index (a_resource kind id slot) a has at records = absurd (rw (sym (kind_here image db has) ∙ records) at (entry_fits (database_here image db.0) index (a_resource kind id slot) (accepted_sound image db.0 a has) at))
