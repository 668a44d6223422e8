-- A caller's chunk becomes the data of a new entry, or of one that hands over its data.
use Rattle.palm_store.proofs.Words.{◌≡◌, ◌≢◌, ℕ, ◌+◌, ◌<◌, ◌≤◌, Bool, true, List, [], ◌∷◌, length, Option, Some, refl, sym, ap, subst, ◌∙◌, arith, rules, All-nil, All-cons, IsSome, slice_get, need, fixed_lock, data_owner, HeapAccepted, directory_of, LiveChunk, ChunkMap, held, same, times, updated, changed, reowned, callers_map, rooms, ShortFor, growth_part, Stuck, entry_size, Entry, a_record, a_resource, entry_data, entry_with, Database, data_in, spelled, has_resources, EntryFits, owner_of, bytes_under, owner_under, databases, Accepted, store_of, with_changed, IsSound, Leaves, Respells, rewritten, SpellsHere, database_here, most_entries, entries_in, data_under, resources_under, with_entry_at, entry_attached, data_exchanged, entry_swapped, raised, LeavesStore, MakesNone, Db, HasOwnId, Change, IsCallersChange, inserted_sound, inserted_names, raised_sound, replaced_own, replaced_names, seeded_name, one_change, edited, made_balance, exchanged_balance, edit_steps, each_one, accepted_sound, number_slot, number_held, data_here, entries_here, kind_here, directory_owner, one_grown, IsMovable, counted, entry_inserted, entry_written, HasNoRoomForEntry, HasNumber, NewEntry, IsMadeOf, TakesIn, MayBeGiven}
use Rattle.laws_store.proofs.Edited.{apart as updated_apart}
use Rattle.palm_store.proofs.Maps.{owner_held}
use Rattle.palm_store.proofs.DataChunks.{IsShown, is_shown, name_some, for_data, data_callers}
use Rattle.palm_store.proofs.EntryChanges.{name_apart, then_raised, with_entry_set, set_is, slot_owner, slot_some, owned_by, then_reowned, reowned_change}
pub use Rattle.palm_store.proofs.EntryChanges.{written_then_owned, owned_none}
use Rattle.palm_store.proofs.NewEntries.{header, named_so, made_of, names_some, new_id}
use Rattle.palm_store.proofs.TwoSteps.{rewritten_apart, changed_keeps, respelled_keeps, keeps_then, none_made}

-- a chunk of a caller's, which is movable
abbrev pub IsGiven : List ℕ → ℕ → Type 0
IsGiven image name = IsShown image name (λ live. (live.owner ≢ data_owner) × (live.lock ≢ fixed_lock))

pub given : (image : List ℕ) (name : ℕ) → MayBeGiven image name → IsGiven image name
unfolding store_of
given image name may = is_shown image name (λ live. (live.owner ≢ data_owner) × (live.lock ≢ fixed_lock)) may

-- it is not the database's
pub given_apart : (image : List ℕ) (db name : ℕ) → Accepted image → HasNumber image db → IsGiven image name → name ≢ db
given_apart image db name a has g e =
    let slot = number_slot image db a has in
    g.callers (sym (owner_held image name g.live g.there) ∙ ap (owner_under image) e ∙ slot.owner)

given_no_data : (image : List ℕ) (name : ℕ) → IsGiven image name → owner_under image name ≢ data_owner
given_no_data image name g e = g.holds.0 (sym (owner_held image name g.live g.there) ∙ e)

-- it can be given to the database in an image where it is as it was
pub given_movable : (old new : List ℕ) (name : ℕ) → IsGiven old name → held new name ≡ held old name → IsMovable new name
given_movable old new name g kept = record { live = g.live; is_held = kept ∙ g.there; movable = g.holds.1 }

pub given_no_directory : (old new : List ℕ) (name : ℕ) → HeapAccepted old → IsGiven old name → directory_of new ≡ directory_of old → name ≢ directory_of new
given_no_directory old new name h g kept e =
    let some = name_some old name g.live h g.there in
    g.callers (sym (owner_held old name g.live g.there) ∙ ap (owner_under old) (e ∙ kept) ∙ directory_owner old h (omega arith))

-- the database was written anew
pub given_kept : (old mid : List ℕ) (db name : ℕ) (d : Database ℕ) → Accepted old → HasNumber old db → IsGiven old name → Respells old mid db d → held mid name ≡ held old name
given_kept old mid db name d a has g l = l.map name ∙ rewritten_apart (held old) db name (spelled d) (given_apart old db name a has g)

-- a database names a caller's chunk more
pub given_steps : (old new : List ℕ) (db : Db) (change : Database ℕ → Database ℕ) (name : ℕ) → Accepted old → HasNumber old db.0 → IsGiven old name → Leaves old new (reowned (rewritten (held old) db.0 (spelled (change (database_here old db.0)))) name data_owner)
    → IsSound (change (database_here old db.0)) → (change (database_here old db.0)).header.name ≡ (database_here old db.0).header.name
    → ((q : ℕ) → 0 < q → times q (data_in (change (database_here old db.0))) ≡ times q (data_in (database_here old db.0)) + same name q)
    → LeavesStore old new (record { map = reowned (callers_map old) name data_owner; databases = with_changed (databases old) db.0 change })
given_steps old new db change name a has g given_to sound same_name counts =
    let d : Database ℕ = database_here old db.0 in
    let now : Option LiveChunk = changed (owned_by data_owner) (callers_map old name) in
    let was : rewritten (held old) db.0 (spelled (change d)) name ≡ callers_map old name = rewritten_apart (held old) db.0 name (spelled (change d)) (given_apart old db.0 name a has g) ∙ g.there ∙ sym g.known in
    let leaves : Leaves old new (edited (held old) db.0 (spelled (change d)) (one_change name now)) = subst (λ (o : Option LiveChunk). Leaves old new (updated (rewritten (held old) db.0 (spelled (change d))) name (changed (owned_by data_owner) o))) was given_to in
    let now_is : now ≡ Some (owned_by data_owner g.live) = ap (changed (owned_by data_owner)) g.known in
    edit_steps old new db change (one_change name now) a has (record {
      leaves = leaves;
      sound = sound;
      same_name = same_name;
      each = each_one old name now (reowned_change old name data_owner g.live now g.there g.callers (λ e. omega arith) now_is);
      balance = made_balance old new db.0 (spelled (change d)) name now leaves d (change d) (given_no_data old name g) (ap owner_of now_is) counts;
    })

-- a new entry
pub takes_in : (old mid new : List ℕ) (db at : ℕ) (entry after : Entry ℕ) (name : ℕ) → after ≡ entry → Respells old mid db (entry_inserted at after (database_here old db)) → Leaves mid new (reowned (held mid) name data_owner) → TakesIn old new db at entry name
takes_in old mid new db at entry after name is first second =
    written_then_owned old mid new db name data_owner (entry_inserted at entry (database_here old db)) (subst (λ (e : Entry ℕ). Respells old mid db (entry_inserted at e (database_here old db))) is first) second

pub takes_none : (old new : List ℕ) (db at : ℕ) (entry : Entry ℕ) (name : ℕ) → Accepted old → HasNumber old db → IsGiven old name → TakesIn old new db at entry name → MakesNone old new
takes_none old new db at entry name a has g takes = owned_none old new db name data_owner (entry_inserted at entry (database_here old db)) g.live a has g.there takes

-- the header can't grow
pub no_room_to_take : (image : List ℕ) (db : Db) (resources : Bool) → resources ≡ resources_under (store_of image) db → SpellsHere image db.0 → HasNoRoomForEntry image db.0 resources
    → Stuck (rooms image) (growth_part image db.0 (length (bytes_under image db.0) + entry_size (resources_under (store_of image) db)) ∷ [])
no_room_to_take image db resources kind s short =
    let head = header image db.0 s in
    let count : ℕ = length (bytes_under image db.0) + entry_size (resources_under (store_of image) db) in
    (one_grown image db.0 count head.live s.heap head.there head.loose).1
    (subst (λ (k : Bool). ShortFor image db.0 (need (length (bytes_under image db.0) + entry_size k))) kind short)

-- the entry that comes names the chunk
pub attach_leaves : (old new : List ℕ) (db : Db) (at : ℕ) (entry : NewEntry) (one : Entry ℕ) (kind : Bool) (name : ℕ) → Accepted old → HasNumber old db.0 → IsMadeOf (store_of old) db entry 0 one → MayBeGiven old name
    → TakesIn old new db.0 at (entry_with (λ none. name) one) name → kind ≡ resources_under (store_of old) db → EntryFits kind (entry_with (λ none. name) one) → at ≤ length (entries_in (store_of old) db) → length (entries_in (store_of old) db) < most_entries
    → LeavesStore old new (raised (entry_attached (store_of old) db at (entry_with (λ none. name) one)) db)
unfolding store_of
attach_leaves old new db at entry one kind name a has is may takes same_kind fits inside few =
    let d : Database ℕ = database_here old db.0 in
    let one_made : Entry ℕ = entry_with (λ none. name) one in
    let slot_is = named_so name one in
    let g = given old name may in
    let count = ap length (entries_here old db has) in
    let put_in : Database ℕ → Database ℕ = with_entry_at at one_made in
    let sound = inserted_sound d at one_made (accepted_sound old db.0 a has) (subst (λ (k : Bool). EntryFits k one_made) (same_kind ∙ kind_here old db has) fits) (names_some name one (name_some old name g.live a.heap g.there)) (new_id old db entry name one_made has (made_of old db entry name one is)) (omega arith) (omega arith) in
    let store = given_steps old new db (entry_inserted at one_made) name a has g takes (raised_sound (put_in d) sound) (seeded_name one_made d.header)
    (λ q some. (let names = inserted_names q d at one_made in let slot = ap (λ (n : ℕ). same n q) slot_is in omega arith)) in
    subst (λ (n : ℕ). LeavesStore old new (raised (record { map = reowned (callers_map old) n data_owner; databases = with_changed (databases old) db.0 put_in }) db)) (sym slot_is)
    (then_raised old new db put_in (record { map = reowned (callers_map old) name data_owner; databases = databases old }) store)

pub attach_steps : (old new : List ℕ) (db : Db) (at : ℕ) (entry : NewEntry) (one : Entry ℕ) (kind : Bool) (name : ℕ) → Accepted old → HasNumber old db.0 → IsMadeOf (store_of old) db entry 0 one → MayBeGiven old name
    → TakesIn old new db.0 at (entry_with (λ none. name) one) name → kind ≡ resources_under (store_of old) db → EntryFits kind (entry_with (λ none. name) one) → at ≤ length (entries_in (store_of old) db) → length (entries_in (store_of old) db) < most_entries
    → (made : Entry ℕ) × IsMadeOf (store_of old) db entry name made × LeavesStore old new (raised (entry_attached (store_of old) db at made) db)
attach_steps old new db at entry one kind name a has is may takes same_kind fits inside few = (
  entry_with (λ none. name) one,
  made_of old db entry name one is,
  attach_leaves old new db at entry one kind name a has is may takes same_kind fits inside few,
)

-- another name leaves an entry its ID
own_with : (entries : List (Entry ℕ)) (index name : ℕ) (entry : Entry ℕ) → HasOwnId entries index entry → HasOwnId entries index (entry_with (λ (slot : ℕ). name) entry)
own_with entries index name (a_record attributes id slot) own = own
own_with entries index name (a_resource kind id slot) own = own

-- what an entry hands over, and what it is given
pub slot_apart : (image : List ℕ) (slot name : ℕ) → IsGiven image name → owner_under image slot ≡ data_owner → name ≢ slot
slot_apart image slot name g own e = given_no_data image name g (ap (owner_under image) e ∙ own)

pub given_kept_then : (old mid between : List ℕ) (db slot name owner : ℕ) (d : Database ℕ) → Accepted old → HasNumber old db → IsGiven old name → owner_under old slot ≡ data_owner → Respells old mid db d → Leaves mid between (reowned (held mid) slot owner) → held between name ≡ held old name
given_kept_then old mid between db slot name owner d a has g own first second =
    second.map name
    ∙ updated_apart (held mid) slot (changed (owned_by owner) (held mid slot)) name (slot_apart old slot name g own)
    ∙ given_kept old mid db name d a has g first

pub swap_steps : (old mid between new : List ℕ) (db : Db) (index : ℕ) (change : Entry ℕ → Entry ℕ) (entry after : Entry ℕ) (slot name owner : ℕ) → Accepted old → HasNumber old db.0 → slice_get (database_here old db.0).entries index ≡ Some entry → slot ≡ entry_data entry
    → 0 < data_under (store_of old) db index → after ≡ entry_with (λ none. name) (change entry) → MayBeGiven old name → 0 < owner → owner < 15
    → Respells old mid db.0 (entry_written true index after (database_here old db.0)) → Leaves mid between (reowned (held mid) slot owner) → Leaves between new (reowned (held between) name data_owner)
    → EntryFits (has_resources (database_here old db.0).header.attributes) (entry_with (λ none. name) (change entry)) → HasOwnId (database_here old db.0).entries index (change entry)
    → LeavesStore old new (raised (entry_swapped (store_of old) db index change name owner) db) × MakesNone old new
unfolding store_of
swap_steps old mid between new db index change entry after slot name owner a has at is_slot there is may low high first second third fits own_id =
    let d : Database ℕ = database_here old db.0 in
    let exchange : Entry ℕ → Entry ℕ = λ one. entry_with (λ (old_slot : ℕ). name) (change one) in
    let set : Database ℕ → Database ℕ = with_entry_set index exchange in
    let counting : Database ℕ → Database ℕ = λ database. counted (with_entry_set index exchange database) in
    let g = given old name may in
    let owned = slot_owner old db index slot entry a has at is_slot (slot_some old db index slot entry has at is_slot there) in
    let chunk = for_data old slot owned in
    let apart = slot_apart old slot name g owned in
    let written : Respells old mid db.0 (counting d) = subst (λ (other : Database ℕ). Respells old mid db.0 (counted other)) (set_is d index exchange entry after at is) first in
    let map : ChunkMap = rewritten (held old) db.0 (spelled (counting d)) in
    let keeps = respelled_keeps old mid db.0 (counting d) written in
    let handed = then_reowned old mid between map slot owner keeps written second in
    let both = then_reowned old between new (reowned map slot owner) name data_owner (keeps_then old mid between keeps (changed_keeps mid between slot (owned_by owner) (λ live. refl) second)) handed third in
    let out : Option LiveChunk = changed (owned_by owner) (callers_map old slot) in
    let now : Option LiveChunk = changed (owned_by data_owner) (reowned (callers_map old) slot owner name) in
    let slot_was : map slot ≡ callers_map old slot = rewritten_apart (held old) db.0 slot (spelled (counting d)) (name_apart old db.0 slot a has (λ some. owned)) ∙ chunk.there ∙ sym (data_callers old slot chunk) in
    let callers_was : reowned (callers_map old) slot owner name ≡ Some g.live = updated_apart (callers_map old) slot out name apart ∙ g.known in
    let name_was : reowned map slot owner name ≡ reowned (callers_map old) slot owner name =
    updated_apart map slot (changed (owned_by owner) (map slot)) name apart ∙ rewritten_apart (held old) db.0 name (spelled (counting d)) (given_apart old db.0 name a has g) ∙ g.there ∙ sym callers_was in
    let leaves : Leaves old new (edited (held old) db.0 (spelled (counting d)) (record { name = name; now = now } ∷ one_change slot out)) =
    subst (λ (o : Option LiveChunk). Leaves old new (updated (updated map slot (changed (owned_by owner) o)) name now)) slot_was
    (subst (λ (o : Option LiveChunk). Leaves old new (updated (reowned map slot owner) name (changed (owned_by data_owner) o))) name_was both) in
    let now_is : now ≡ Some (owned_by data_owner g.live) = ap (changed (owned_by data_owner)) callers_was in
    let out_is : out ≡ Some (owned_by owner chunk.live) = ap (changed (owned_by owner)) (data_callers old slot chunk) in
    let out_owner : owner_of out ≡ owner = ap owner_of out_is in
    let chunk_own = chunk.own in
    let store = edit_steps old new db counting (record { name = name; now = now } ∷ one_change slot out) a has (record {
      leaves = leaves;
      sound = raised_sound (set d) (replaced_own d index exchange entry (accepted_sound old db.0 a has) at fits (names_some name (change entry) (name_some old name g.live a.heap g.there)) (own_with d.entries index name (change entry) own_id));
      same_name = refl;
      each = All-cons (IsCallersChange old) (record { name = name; now = now }) (one_change slot out) (reowned_change old name data_owner g.live now g.there g.callers (λ e. omega arith) now_is)
          (each_one old slot out (reowned_change old slot owner chunk.live out chunk.there (λ e. omega arith) (λ e. omega arith) out_is));
      balance = exchanged_balance old new db.0 (spelled (counting d)) name now slot out leaves d (counting d) (given_no_data old name g) (ap owner_of now_is) owned (λ e. omega arith)
          (λ q. (let sums = replaced_names q d index exchange entry at in let name_is = ap (λ (n : ℕ). same n q) (named_so name (change entry)) in let slot_is = ap (λ (n : ℕ). same n q) is_slot in omega arith));
    }) in (
      subst (λ (n : ℕ). LeavesStore old new (raised (record { map = data_exchanged (callers_map old) n owner name; databases = with_changed (databases old) db.0 set }) db)) (is_slot ∙ sym (data_here old db index entry has at))
          (then_raised old new db set (record { map = data_exchanged (callers_map old) slot owner name; databases = databases old }) store),
      none_made old new db.0 (spelled (counting d)) (record { name = name; now = now } ∷ one_change slot out) leaves (number_held old db.0 a has)
          (All-cons (λ (one : Change). IsSome one.now → IsSome (held old one.name)) (record { name = name; now = now }) (one_change slot out) (λ z. subst (λ (o : Option LiveChunk). IsSome o) (sym g.there) (search rules))
          (All-cons (λ (one : Change). IsSome one.now → IsSome (held old one.name)) (record { name = slot; now = out }) [] (λ z. subst (λ (o : Option LiveChunk). IsSome o) (sym chunk.there) (search rules)) (All-nil (λ (one : Change). IsSome one.now → IsSome (held old one.name))))),
    )
