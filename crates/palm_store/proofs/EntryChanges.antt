-- Changes of one database, and of one chunk for data that it names, are changes of the store.
use Rattle.palm_store.proofs.Words.{◌≡◌, ◌≢◌, ℕ, ◌+◌, ◌<◌, ◌≤◌, Bool, true, false, List, [], length, Option, Some, None, refl, sym, ap, subst, ◌∙◌, arith, rules, All-nil, IsSome, slice_get, remove, data_owner, managers_owner, directory_of, LiveChunk, ChunkMap, rewritten, IsCallersChange, held, same, times, moved, updated, changed, gone, reowned, callers_map, Entry, entry_data, Database, data_in, spelled, has_resources, EntryFits, DatabaseFits, Store, owner_of, owner_under, databases, unique_id, Accepted, store_of, with_changed, IsSound, NamesData, Leaves, Respells, database_here, entry_under, data_of_entry, data_under, replaced, without_data, with_entries, entry_changed, data_freed, entry_dropped, entry_handed_over, raised, LeavesStore, MakesNone, Db, same_some, HasOwnId, changed_twice, same-no, owned_some, accepted_sound, number_slot, number_some, number_held, data_here, entry_here, entry_owner, Change, one_change, edited, gone_balance, edit_steps, each_one, respell_steps, raised_sound, replaced_is, replaced_kept, replaced_own, replaced_names, removed_sound, removed_names, moved_sound, moved_names, IsMovable, counted, counted_if, with_moved, entry_moved, entry_written, entry_removed, HasNumber, IsEntryData, HasLockedData, raised_if, Of, IsLocked}
use Rattle.db_format.specs.Entries.{with_entry}
use Rattle.palm_store.proofs.DataChunks.{for_data, data_callers, data_movable, data_no_directory}
use Rattle.palm_store.proofs.Maps.{owner_held}
use Rattle.palm_store.proofs.TwoSteps.{rewritten_apart, KeepsChunks, respelled_keeps, then_changed, respelled_then, none_made, none_made_by}

-- a name of data, or 0, is not the number
pub name_apart : (image : List ℕ) (db name : ℕ) → Accepted image → HasNumber image db → (0 < name → owner_under image name ≡ data_owner) → name ≢ db
name_apart image db name a has own e =
    let is = own (omega (arith, number_some image db a has)) in
    omega (arith, (number_slot image db a has).owner, ap (owner_under image) e)

-- one with the entries of a sound one is sound, if it fits
pub sound_like : (d other : Database ℕ) → IsSound d → DatabaseFits other → other.entries ≡ d.entries → IsSound other
sound_like d other sound fits same = record {
  fits = fits;
  entries = rw same sound.entries;
  ids = record { none_zero = rw same sound.ids.none_zero; distinct = rw same sound.ids.distinct };
}

pub respelled_none : (old new : List ℕ) (db : ℕ) (d : Database ℕ) → Accepted old → HasNumber old db → Respells old new db d → MakesNone old new
respelled_none old new db d a has l =
    none_made old new db (spelled d) [] l (number_held old db a has) (All-nil (λ (one : Change). IsSome one.now → IsSome (held old one.name)))

-- a count keeps the name and the data, and what is sound
counted_alike : (counts : Bool) (d : Database ℕ) → (IsSound d → IsSound (counted_if counts d)) × ((counted_if counts d).header.name ≡ d.header.name) × (data_in (counted_if counts d) ≡ data_in d)
counted_alike true d = (raised_sound d, refl, refl)
counted_alike false d = ((λ sound. sound), refl, refl)

-- a database changed and counted is the changed one, with its number raised
pub then_raised : (old new : List ℕ) (db : Db) (change : Database ℕ → Database ℕ) (store : Store) → LeavesStore old new (record store { databases = with_changed store.databases db.0 (λ database. counted (change database)) })
    → LeavesStore old new (raised (record store { databases = with_changed store.databases db.0 change }) db)
then_raised old new db change store leaves = rw (changed_twice db.0 change counted store.databases) leaves

then_raised_if : (counts : Bool) (old new : List ℕ) (db : Db) (change : Database ℕ → Database ℕ) (store : Store) → LeavesStore old new (record store { databases = with_changed store.databases db.0 (λ database. counted_if counts (change database)) })
    → LeavesStore old new (raised_if counts (record store { databases = with_changed store.databases db.0 change }) db)
then_raised_if true old new db change store leaves = then_raised old new db change store leaves
then_raised_if false old new db change store leaves = leaves

-- the modification number
pub counting_steps : (old new : List ℕ) (db : Db) → Accepted old → HasNumber old db.0 → Respells old new db.0 (counted (database_here old db.0)) → LeavesStore old new (raised (store_of old) db)
counting_steps old new db a has l = respell_steps old new db counted a has l (raised_sound (database_here old db.0) (accepted_sound old db.0 a has)) refl (λ q some. refl)

-- an entry moved
pub move_steps : (old new : List ℕ) (db : Db) (from to : ℕ) → Accepted old → HasNumber old db.0 → from < length (database_here old db.0).entries → to ≤ length (database_here old db.0).entries
    → Respells old new db.0 (entry_moved from to (database_here old db.0)) → LeavesStore old new (raised (with_entries (store_of old) db (λ entries. moved entries from to)) db)
move_steps old new db from to a has inside most l =
    let d : Database ℕ = database_here old db.0 in
    then_raised old new db (with_moved from to) (store_of old)
    (respell_steps old new db (entry_moved from to) a has l (raised_sound (with_moved from to d) (moved_sound d from to (accepted_sound old db.0 a has) inside most)) refl
    (λ q some. moved_names q d from to inside))

-- a database with another entry at an index
abbrev pub with_entry_set : ℕ → (Entry ℕ → Entry ℕ) → Database ℕ → Database ℕ
with_entry_set index change d = record d { entries = replaced d.entries index change }

pub set_is : (d : Database ℕ) (index : ℕ) (change : Entry ℕ → Entry ℕ) (entry after : Entry ℕ) → slice_get d.entries index ≡ Some entry → after ≡ change entry
    → with_entry d index after ≡ with_entry_set index change d
set_is d index change entry after at is = rw (is, replaced_is d.entries index change entry at)

pub set_steps : (counts : Bool) (old new : List ℕ) (db : Db) (index : ℕ) (change : Entry ℕ → Entry ℕ) (entry after : Entry ℕ) → Accepted old → HasNumber old db.0 → slice_get (database_here old db.0).entries index ≡ Some entry → after ≡ change entry
    → Respells old new db.0 (entry_written counts index after (database_here old db.0))
    → EntryFits (has_resources (database_here old db.0).header.attributes) (change entry) → NamesData (change entry) → HasOwnId (database_here old db.0).entries index (change entry) → entry_data (change entry) ≡ entry_data entry
    → LeavesStore old new (raised_if counts (entry_changed (store_of old) db index change) db)
set_steps counts old new db index change entry after a has at is l fits names own slots =
    let d : Database ℕ = database_here old db.0 in
    let alike = counted_alike counts (with_entry_set index change d) in
    then_raised_if counts old new db (with_entry_set index change) (store_of old)
    (respell_steps old new db (λ database. counted_if counts (with_entry_set index change database)) a has
    (subst (λ (other : Database ℕ). Respells old new db.0 (counted_if counts other)) (set_is d index change entry after at is) l)
    (alike.0 (replaced_own d index change entry (accepted_sound old db.0 a has) at fits names own)) alike.1
    (λ q some. (let same_data = ap (times q) alike.2 in let sums = replaced_names q d index change entry at in let kept = ap (λ (slot : ℕ). same slot q) slots in omega arith)))

-- A changed database names a chunk no more, which is freed or has another owner.
unnamed : (counts : Bool) (old new : List ℕ) (db : Db) (change : Database ℕ → Database ℕ) (slot : ℕ) (now : Option LiveChunk) → Accepted old → HasNumber old db.0
    → Leaves old new (edited (held old) db.0 (spelled (counted_if counts (change (database_here old db.0)))) (one_change slot now)) → IsSound (change (database_here old db.0))
    → (change (database_here old db.0)).header.name ≡ (database_here old db.0).header.name → (0 < slot → owner_under old slot ≡ data_owner) → owner_of now ≢ data_owner → IsCallersChange old (record { name = slot; now = now })
    → ((q : ℕ) → 0 < q → times q (data_in (change (database_here old db.0))) + same slot q ≡ times q (data_in (database_here old db.0)))
    → LeavesStore old new (raised_if counts (record { map = updated (callers_map old) slot now; databases = with_changed (databases old) db.0 change }) db)
unnamed counts old new db change slot now a has l sound name own other callers sums =
    let d : Database ℕ = change (database_here old db.0) in
    let alike = counted_alike counts d in
    then_raised_if counts old new db change (record { map = updated (callers_map old) slot now; databases = databases old })
    (edit_steps old new db (λ database. counted_if counts (change database)) (one_change slot now) a has (record {
      leaves = l;
      sound = alike.0 sound;
      same_name = alike.1 ∙ name;
      each = each_one old slot now callers;
      balance = gone_balance old new db.0 (spelled (counted_if counts d)) slot now l (database_here old db.0) (counted_if counts d) own other (λ q some. (let same_data = ap (times q) alike.2 in let sum = sums q some in omega arith));
    }))

-- the chunk is freed, which was the data of an entry
freed : (counts : Bool) (old mid new : List ℕ) (db : Db) (index : ℕ) (entry : Entry ℕ) (change : Database ℕ → Database ℕ) → Accepted old → HasNumber old db.0 → slice_get (database_here old db.0).entries index ≡ Some entry
    → Respells old mid db.0 (counted_if counts (change (database_here old db.0))) → Leaves mid new (gone (held mid) (entry_data entry)) → IsSound (change (database_here old db.0))
    → (change (database_here old db.0)).header.name ≡ (database_here old db.0).header.name
    → ((q : ℕ) → 0 < q → times q (data_in (change (database_here old db.0))) + same (entry_data entry) q ≡ times q (data_in (database_here old db.0)))
    → LeavesStore old new (raised_if counts (record { map = gone (callers_map old) (data_under (store_of old) db index); databases = with_changed (databases old) db.0 change }) db) × MakesNone old new
freed counts old mid new db index entry change a has at first second sound name sums =
    let d : Database ℕ = counted_if counts (change (database_here old db.0)) in
    let slot : ℕ = entry_data entry in
    let own = entry_owner old db.0 index entry a has at in
    let leaves = respelled_then old mid new db.0 slot d None first second in
    let callers : IsCallersChange old (record { name = slot; now = None }) = record {
      callers = λ e. (let some = owned_some old slot 0 a.heap e (omega arith) in let is = own some in omega arith);
      callers_now = λ e. omega arith;
      locks = λ before later was now. absurd cc;
    } in (
      subst (λ (name : ℕ). LeavesStore old new (raised_if counts (record { map = gone (callers_map old) name; databases = with_changed (databases old) db.0 change }) db)) (sym (data_here old db index entry has at))
          (unnamed counts old new db change slot None a has leaves sound name own (λ e. omega arith) callers sums),
      none_made_by old new db.0 slot (spelled d) None leaves (number_held old db.0 a has) (λ there. absurd cc),
    )

-- a chunk that gets an owner
abbrev pub owned_by : ℕ → LiveChunk → LiveChunk
owned_by owner live = record live { owner = owner }

-- a chunk got an owner once others were changed
pub then_reowned : (old mid new : List ℕ) (map : ChunkMap) (name owner : ℕ) → KeepsChunks old mid → Leaves old mid map → Leaves mid new (reowned (held mid) name owner) → Leaves old new (reowned map name owner)
then_reowned old mid new map name owner keeps first second =
    then_changed old mid new map name (changed (owned_by owner) (map name)) keeps first
    (subst (λ (o : Option LiveChunk). Leaves mid new (updated (held mid) name (changed (owned_by owner) o))) (first.map name) second)

-- a database was written anew, and then a chunk got an owner
pub written_then_owned : (old mid new : List ℕ) (db name owner : ℕ) (d : Database ℕ) → Respells old mid db d → Leaves mid new (reowned (held mid) name owner) → Leaves old new (reowned (rewritten (held old) db (spelled d)) name owner)
written_then_owned old mid new db name owner d first second = then_reowned old mid new (rewritten (held old) db (spelled d)) name owner (respelled_keeps old mid db d first) first second

pub owned_none : (old new : List ℕ) (db name owner : ℕ) (d : Database ℕ) (live : LiveChunk) → Accepted old → HasNumber old db → held old name ≡ Some live → Leaves old new (reowned (rewritten (held old) db (spelled d)) name owner) → MakesNone old new
owned_none old new db name owner d live a has there l =
    none_made_by old new db name (spelled d) (changed (owned_by owner) (rewritten (held old) db (spelled d) name)) l (number_held old db a has) (λ some. rw there (search rules))

pub reowned_change : (image : List ℕ) (name owner : ℕ) (live : LiveChunk) (now : Option LiveChunk) → held image name ≡ Some live → live.owner ≢ managers_owner → owner ≢ managers_owner → now ≡ Some (owned_by owner live) → IsCallersChange image (record { name = name; now = now })
reowned_change image name owner live now there callers other is = record {
  callers = λ e. callers (sym (owner_held image name live there) ∙ e);
  callers_now = λ e. other (sym (ap owner_of is) ∙ e);
  locks = λ before after was then. ap (λ (l : LiveChunk). l.lock) (same_some after (owned_by owner live) (sym then ∙ is)) ∙ ap (λ (l : LiveChunk). l.lock) (same_some live before (sym there ∙ was));
}

-- a database names a chunk no more, which a caller gets
pub handed_steps : (counts : Bool) (old new : List ℕ) (db : Db) (change : Database ℕ → Database ℕ) (slot owner : ℕ) → Accepted old → HasNumber old db.0 → owner_under old slot ≡ data_owner → 0 < owner → owner < 15
    → Leaves old new (reowned (rewritten (held old) db.0 (spelled (counted_if counts (change (database_here old db.0))))) slot owner) → IsSound (change (database_here old db.0)) → (change (database_here old db.0)).header.name ≡ (database_here old db.0).header.name
    → ((q : ℕ) → 0 < q → times q (data_in (change (database_here old db.0))) + same slot q ≡ times q (data_in (database_here old db.0)))
    → LeavesStore old new (raised_if counts (record { map = reowned (callers_map old) slot owner; databases = with_changed (databases old) db.0 change }) db)
handed_steps counts old new db change slot owner a has own low high given_to sound same_name sums =
    let bytes : List ℕ = spelled (counted_if counts (change (database_here old db.0))) in
    let chunk = for_data old slot own in
    let live_own = chunk.own in
    let shown = data_callers old slot chunk in
    let now : Option LiveChunk = changed (owned_by owner) (callers_map old slot) in
    let was : rewritten (held old) db.0 bytes slot ≡ callers_map old slot = rewritten_apart (held old) db.0 slot bytes (name_apart old db.0 slot a has (λ some. own)) ∙ chunk.there ∙ sym shown in
    let leaves : Leaves old new (edited (held old) db.0 bytes (one_change slot now)) = subst (λ (o : Option LiveChunk). Leaves old new (updated (rewritten (held old) db.0 bytes) slot (changed (owned_by owner) o))) was given_to in
    let now_is : now ≡ Some (owned_by owner chunk.live) = ap (changed (owned_by owner)) shown in
    let owner_is : owner_of now ≡ owner = ap owner_of now_is in
    unnamed counts old new db change slot now a has leaves sound same_name (λ some. own) (λ e. omega arith) (reowned_change old slot owner chunk.live now chunk.there (λ e. omega arith) (λ e. omega arith) now_is) sums

-- the slot of an entry's data, when the database was written anew
pub slot_owner : (image : List ℕ) (db : Db) (index slot : ℕ) (entry : Entry ℕ) → Accepted image → HasNumber image db.0 → slice_get (database_here image db.0).entries index ≡ Some entry → slot ≡ entry_data entry → 0 < slot → owner_under image slot ≡ data_owner
slot_owner image db index slot entry a has at is some = ap (owner_under image) is ∙ entry_owner image db.0 index entry a has at (omega arith)

-- the same, of a name that some entry has
pub named_owner : (image : List ℕ) (name : ℕ) → Accepted image → IsEntryData image name → owner_under image name ≡ data_owner
named_owner image name a own = by (entry_under (store_of image) own.db own.index) refl own.is own.some where
  by : (o : Option (Entry ℕ)) → entry_under (store_of image) own.db own.index ≡ o → data_of_entry o ≡ name → 0 < name → owner_under image name ≡ data_owner
  by None e is some = absurd (omega arith)
  by (Some entry) e is some = slot_owner image own.db own.index name entry a own.number (sym (entry_here image own.db own.index own.number) ∙ e) (sym is) some

pub slot_some : (image : List ℕ) (db : Db) (index slot : ℕ) (entry : Entry ℕ) → HasNumber image db.0 → slice_get (database_here image db.0).entries index ≡ Some entry → slot ≡ entry_data entry → 0 < data_under (store_of image) db index → 0 < slot
slot_some image db index slot entry has at is there = (let same_name = data_here image db index entry has at in omega arith)

module _ (old mid : List ℕ) (db : Db) (index slot : ℕ) (entry : Entry ℕ) (d : Database ℕ) (a : Accepted old) (has : HasNumber old db.0) (at : slice_get (database_here old db.0).entries index ≡ Some entry) (is : slot ≡ entry_data entry) (l : Respells old mid db.0 d) where
  own : 0 < slot → owner_under old slot ≡ data_owner
  own = slot_owner old db index slot entry a has at is

  kept : held mid slot ≡ held old slot
  kept = l.map slot ∙ rewritten_apart (held old) db.0 slot (spelled d) (name_apart old db.0 slot a has own)

  pub slot_no_directory : 0 < slot → slot ≢ directory_of mid
  slot_no_directory some e = data_no_directory old slot a.heap some (own some) (e ∙ l.frame.directory)

  pub slot_movable : 0 < slot → IsMovable mid slot
  slot_movable some =
      let movable = data_movable old slot a.heap (for_data old slot (own some)) in
      record { live = movable.live; is_held = kept ∙ movable.is_held; movable = movable.movable }

  -- nor is it locked, where the data isn't
  pub slot_unlocked : (HasLockedData old db index → ⊥) → 0 < slot → Of (held mid slot) IsLocked → ⊥
  unfolding store_of
  slot_unlocked none some locked =
      let chunk = for_data old slot (own some) in
      let shown : held mid slot ≡ callers_map old slot = kept ∙ chunk.there ∙ sym (data_callers old slot chunk) in
      let named : slot ≡ data_under (store_of old) db index = is ∙ sym (data_here old db index entry has at) in
      none (subst (λ (name : ℕ). Of (callers_map old name) IsLocked) named (subst (λ (o : Option LiveChunk). Of o IsLocked) shown locked))

-- the data of an entry freed
pub free_steps : (counts : Bool) (old mid new : List ℕ) (db : Db) (index : ℕ) (entry after : Entry ℕ) → Accepted old → HasNumber old db.0 → slice_get (database_here old db.0).entries index ≡ Some entry → after ≡ without_data entry
    → Respells old mid db.0 (entry_written counts index after (database_here old db.0)) → Leaves mid new (gone (held mid) (entry_data entry))
    → EntryFits (has_resources (database_here old db.0).header.attributes) (without_data entry) → NamesData (without_data entry) → unique_id (without_data entry) ≡ unique_id entry → entry_data (without_data entry) ≡ 0
    → LeavesStore old new (raised_if counts (data_freed (store_of old) db index) db) × MakesNone old new
unfolding store_of
free_steps counts old mid new db index entry after a has at is first second fits names same_id none =
    let d : Database ℕ = database_here old db.0 in
    let sound = replaced_kept d index without_data entry (accepted_sound old db.0 a has) at fits names same_id in
    freed counts old mid new db index entry (with_entry_set index without_data) a has at (subst (λ (other : Database ℕ). Respells old mid db.0 (counted_if counts other)) (set_is d index without_data entry after at is) first) second sound refl
    (λ q some. (let sums = replaced_names q d index without_data entry at in let zero_is = same-no (entry_data (without_data entry)) q (λ e. omega arith) in omega arith))

-- an entry dropped
abbrev without_entry : ℕ → Database ℕ → Database ℕ
without_entry index d = record d { entries = remove d.entries index }

pub drop_steps : (old mid new : List ℕ) (db : Db) (index : ℕ) (entry : Entry ℕ) → Accepted old → HasNumber old db.0 → slice_get (database_here old db.0).entries index ≡ Some entry → index < length (database_here old db.0).entries
    → Respells old mid db.0 (entry_removed index (database_here old db.0)) → Leaves mid new (gone (held mid) (entry_data entry))
    → LeavesStore old new (raised (entry_dropped (store_of old) db index) db) × MakesNone old new
unfolding store_of
drop_steps old mid new db index entry a has at inside first second =
    let d : Database ℕ = database_here old db.0 in
    freed true old mid new db index entry (without_entry index) a has at first second (removed_sound d index (accepted_sound old db.0 a has) inside) refl (λ q some. removed_names q d index entry at)

pub hand_over_steps : (old mid new : List ℕ) (db : Db) (index owner slot : ℕ) (entry : Entry ℕ) → Accepted old → HasNumber old db.0 → slice_get (database_here old db.0).entries index ≡ Some entry → slot ≡ entry_data entry → index < length (database_here old db.0).entries
    → 0 < data_under (store_of old) db index → 0 < owner → owner < 15 → Respells old mid db.0 (entry_removed index (database_here old db.0)) → Leaves mid new (reowned (held mid) slot owner)
    → LeavesStore old new (raised (entry_handed_over (store_of old) db index owner) db) × MakesNone old new
unfolding store_of
hand_over_steps old mid new db index owner slot entry a has at is_slot inside there low high first second =
    let d : Database ℕ = database_here old db.0 in
    let own = slot_owner old db index slot entry a has at is_slot (slot_some old db index slot entry has at is_slot there) in
    let chunk = for_data old slot own in
    let leaves = written_then_owned old mid new db.0 slot owner (entry_removed index d) first second in (
      subst (λ (name : ℕ). LeavesStore old new (raised (record { map = reowned (callers_map old) name owner; databases = with_changed (databases old) db.0 (without_entry index) }) db)) (is_slot ∙ sym (data_here old db index entry has at))
          (handed_steps true old new db (without_entry index) slot owner a has own low high leaves (removed_sound d index (accepted_sound old db.0 a has) inside) refl
          (λ q some. (let counts = removed_names q d index entry at in let name = ap (λ (n : ℕ). same n q) is_slot in omega arith))),
      owned_none old new db.0 slot owner (entry_removed index d) chunk.live a has chunk.there leaves,
    )
