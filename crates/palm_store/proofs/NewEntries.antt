-- A new entry that came to a database with a chunk for its data, or found no room.
use Rattle.palm_store.proofs.Words.{◌≡◌, ◌≢◌, ℕ, ◌+◌, ◌<◌, ◌≤◌, Bool, List, [], ◌∷◌, length, replicate, Option, Some, None, refl, sym, ap, subst, ◌∙◌, arith, inr, ◌⊎◌, Memory, need, data_owner, HeapAccepted, directory_of, LiveChunk, held, made, callers_map, free_slots, rooms, Lowers, making, growth_part, Stuck, entry_size, Entry, a_record, a_resource, entry_data, entry_with, Database, database_in, EntryFits, bytes_under, owner_under, databases, unique_ids, Accepted, store_of, NamesData, Leaves, Respells, SpellsHere, database_here, most_entries, entries_in, resources_under, with_entry_at, entry_made, raised, LeavesStore, StoreAsBefore, Db, as_before, MakesNew, HasNewId, managers_loose, fresh_new, inserted_sound, inserted_names, raised_sound, seeded_name, one_change, edit_steps, made_edit, same_steps, accepted_sound, in_here, in_store, entries_here, kind_here, owned_some, made_then_short, entry_inserted, HasNoRoomForEntry, HasNumber, NewEntry, IsMadeOf, PutsIn, bytes_like}
use Rattle.heap_model.specs.UniqueIds.{IsFresh, seed_in}
use Rattle.laws_store.proofs.Edited.{owner_now}
use Rattle.palm_store.specs.declared.entries.infos.EntryInfo.TheVariants as new
use Rattle.palm_store.proofs.EntryChanges.{then_raised}
use Rattle.palm_store.proofs.Maps.{others_now, owner_none, owner_alike, owned}
use Rattle.palm_store.proofs.ListedSlots.{made_apart}
use Rattle.palm_store.proofs.TwoSteps.{then_respelled, database_kept}
-- The chunk may be freed again.
pub use Rattle.palm_store.proofs.ListedSlots.{given_back}

-- when the chunk was made
abbrev chunk_made : ℕ → Option LiveChunk
chunk_made size = Some (record { bytes = replicate size 0; lock = 0; owner = data_owner })

-- a name that stood for nothing isn't the database's
fresh_name : (image : List ℕ) (db name : ℕ) → SpellsHere image db → held image name ≡ None → name ≢ db
fresh_name image db name s none e = (let own = ap (owner_under image) e ∙ s.owner in let nothing = owner_none image name none in omega arith)

db_kept : (old mid : List ℕ) (db name size : ℕ) → SpellsHere old db → MakesNew old mid name size 15 → held mid db ≡ held old db
db_kept old mid db name size s m = others_now name _ m.leaves db (λ e. fresh_name old db name s m.fresh (sym e))

-- the database is spelled as it was
pub spells_still : (old mid : List ℕ) (db name size : ℕ) → SpellsHere old db → MakesNew old mid name size 15 → SpellsHere mid db
spells_still old mid db name size s m =
    let kept = db_kept old mid db name size s m in
    record { heap = m.leaves.frame.accepted; owner = owner_alike old mid db kept ∙ s.owner; spelled = rw (bytes_like old mid db kept) s.spelled }

pub database_still : (old mid : List ℕ) (db name size : ℕ) → SpellsHere old db → MakesNew old mid name size 15 → database_here mid db ≡ database_here old db
database_still old mid db name size s m = database_kept old mid db (db_kept old mid db name size s m)

pub made_no_directory : (old mid : List ℕ) (name size : ℕ) → HeapAccepted old → MakesNew old mid name size 15 → name ≢ directory_of mid
made_no_directory old mid name size h m = made_apart old mid name size (omega arith) h m

-- the entry is put in
pub puts_in : (old mid new : List ℕ) (db at : ℕ) (entry after : Entry ℕ) (name size : ℕ) → SpellsHere old db → MakesNew old mid name size 15 → after ≡ entry → Respells mid new db (entry_inserted at after (database_here mid db)) → PutsIn old new db at entry name size
puts_in old mid new db at entry after name size s m is l = record {
  fresh = m.fresh;
  leaves = then_respelled old mid new db name (entry_inserted at entry (database_here old db)) (chunk_made size) (fresh_name old db name s m.fresh) m.fresh m.leaves
      (rw (is, database_still old mid db name size s m) at l);
}

-- there was no room: what spells a database has no lock
pub record Header (image : List ℕ) (db : ℕ) : Type 0 where
  pub live : LiveChunk
  pub there : held image db ≡ Some live
  pub loose : live.lock ≡ 0

pub header : (image : List ℕ) (db : ℕ) → SpellsHere image db → Header image db
header image db s = (let o = owned image db 0 s.owner (omega arith) in record { live = o.live; there = o.there; loose = managers_loose image db o.live s.heap o.there o.own })

pub no_header_room : (old mid : List ℕ) (db : Db) (name size : ℕ) (resources : Bool) → resources ≡ resources_under (store_of old) db → SpellsHere old db.0 → MakesNew old mid name size 15 → Lowers old mid (need size)
    → HasNoRoomForEntry mid db.0 resources
    → (free_slots old < 1) ⊎ Stuck (rooms old) (making size ∷ growth_part old db.0 (length (bytes_under old db.0) + entry_size (resources_under (store_of old) db)) ∷ [])
no_header_room old mid db name size resources kind s m lowers short =
    let kept = db_kept old mid db.0 name size s m in
    let head = header old db.0 s in
    inr (made_then_short old mid (need size) db.0 (length (bytes_under old db.0) + entry_size (resources_under (store_of old) db)) head.live m.leaves.frame.accepted lowers head.there (kept ∙ head.there) head.loose
    (rw (bytes_like old mid db.0 kept, kind) at short))

-- the step of the store
pub named_so : (slot : ℕ) (entry : Entry ℕ) → entry_data (entry_with (λ none. slot) entry) ≡ slot
named_so slot (a_record attributes id none) = refl
named_so slot (a_resource kind id none) = refl

pub made_of : (image : List ℕ) (db : Db) (entry : NewEntry) (slot : ℕ) (one : Entry ℕ) → IsMadeOf (store_of image) db entry 0 one → IsMadeOf (store_of image) db entry slot (entry_with (λ none. slot) one)
made_of image db (new.Record attributes none) slot one is = (is.0, is.1, ap (entry_with (λ none. slot)) is.2)
made_of image db (new.Resource kind id) slot one is = ap (entry_with (λ none. slot)) is

pub names_some : (slot : ℕ) (entry : Entry ℕ) → 0 < slot → NamesData (entry_with (λ none. slot) entry)
names_some slot (a_record attributes id none) some = λ e. absurd (omega arith)
names_some slot (a_resource kind id none) some = some

pub new_id : (image : List ℕ) (db : Db) (entry : NewEntry) (slot : ℕ) (one : Entry ℕ) → HasNumber image db.0 → IsMadeOf (store_of image) db entry slot one → HasNewId (unique_ids (database_here image db.0)) one
new_id image db (new.Record attributes none) slot one has is =
    let fresh = in_here image db (λ (database : Database ℕ). IsFresh (unique_ids database) (seed_in database.header.seed) is.0) has is.1 in
    let new = fresh_new (unique_ids (database_here image db.0)) (database_here image db.0).header.seed is.0 fresh in
    subst (HasNewId (unique_ids (database_here image db.0))) (sym is.2) (new.0, new.2)
new_id image db (new.Resource kind id) slot one has is = subst (HasNewId (unique_ids (database_here image db.0))) (sym is) tt

-- the name of the data is not 0
put_some : (old after : List ℕ) (db at : ℕ) (entry : Entry ℕ) (slot size : ℕ) → PutsIn old after db at entry slot size → 0 < slot
put_some old after db at entry slot size puts = owned_some after slot 15 puts.leaves.frame.accepted (owner_now old after db _ slot (chunk_made size) [] puts.leaves) (omega arith)

-- the entry that comes names its data
pub new_leaves : (old after : List ℕ) (db : Db) (at : ℕ) (entry : NewEntry) (one : Entry ℕ) (kind : Bool) (slot size : ℕ) → Accepted old → HasNumber old db.0 → IsMadeOf (store_of old) db entry 0 one → PutsIn old after db.0 at (entry_with (λ none. slot) one) slot size
    → kind ≡ resources_under (store_of old) db → EntryFits kind (entry_with (λ none. slot) one) → at ≤ length (entries_in (store_of old) db) → length (entries_in (store_of old) db) < most_entries
    → LeavesStore old after (raised (entry_made (store_of old) db at (entry_with (λ none. slot) one) size) db)
unfolding store_of
new_leaves old after db at entry one kind slot size a has is puts same_kind fits inside few =
    let d : Database ℕ = database_here old db.0 in
    let one_made : Entry ℕ = entry_with (λ none. slot) one in
    let name = named_so slot one in
    let count = ap length (entries_here old db has) in
    let put_in : Database ℕ → Database ℕ = with_entry_at at one_made in
    let sound = inserted_sound d at one_made (accepted_sound old db.0 a has) (rw (same_kind ∙ kind_here old db has) at fits) (names_some slot one (put_some old after db.0 at one_made slot size puts))
    (new_id old db entry slot one_made has (made_of old db entry slot one is)) (omega arith) (omega arith) in
    let edit = made_edit old after db.0 (entry_inserted at one_made d) (entry_data one_made) size (rw name puts.leaves) (ap (held old) name ∙ puts.fresh) (raised_sound (put_in d) sound) (seeded_name one_made d.header) (λ q. inserted_names q d at one_made) in
    then_raised old after db put_in (record { map = made (callers_map old) (entry_data one_made) size data_owner 0; databases = databases old })
    (edit_steps old after db (entry_inserted at one_made) (one_change (entry_data one_made) (chunk_made size)) a has edit)

pub new_steps : (old after : List ℕ) (db : Db) (at : ℕ) (entry : NewEntry) (one : Entry ℕ) (kind : Bool) (slot size : ℕ) → Accepted old → HasNumber old db.0 → IsMadeOf (store_of old) db entry 0 one → PutsIn old after db.0 at (entry_with (λ none. slot) one) slot size
    → kind ≡ resources_under (store_of old) db → EntryFits kind (entry_with (λ none. slot) one) → at ≤ length (entries_in (store_of old) db) → length (entries_in (store_of old) db) < most_entries
    → (made : Entry ℕ) × IsMadeOf (store_of old) db entry slot made × LeavesStore old after (raised (entry_made (store_of old) db at made size) db)
new_steps old after db at entry one kind slot size a has is puts same_kind fits inside few = (
  entry_with (λ none. slot) one,
  made_of old db entry slot one is,
  new_leaves old after db at entry one kind slot size a has is puts same_kind fits inside few,
)

-- a new record
pub record_made : (image body : List ℕ) (db : Db) (attributes given id : ℕ) → HasNumber image db.0 → body ≡ bytes_under image db.0 → IsFresh (unique_ids (database_in body)) (seed_in (database_in body).header.seed) id → given ≡ attributes
    → IsMadeOf (store_of image) db (new.Record attributes tt) 0 (a_record given id 0)
record_made image body db attributes given id has body_is fresh is = (
  id,
  in_store image db (λ (database : Database ℕ). IsFresh (unique_ids database) (seed_in database.header.seed) id) has (rw body_is at fresh),
  rw is refl,
)

-- a refusal leaves the store as it was
pub left_as_before : (old new : Memory) → Accepted old.bytes → Leaves old.bytes new.bytes (held old.bytes) → StoreAsBefore old new
left_as_before old new a l =
    let same = same_steps old.bytes new.bytes a l in
    let free = as_before old.bytes new.bytes a.heap l.frame l.map in
    record { store = same.same; free = free.0; slots = free.1 }
