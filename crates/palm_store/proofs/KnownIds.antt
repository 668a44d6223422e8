-- IDs that are known to be free: which changes of a store leave them free.
use Rattle.palm_store.proofs.Words.{◌≡◌, ◌≢◌, ◌≤◌, ◌++◌, ◌⊎◌, if◌then◌else◌, All, All-append, ℕ, suc, List, [], ◌∷◌, take, drop, Option, Some, None, Bool, true, false, ◌+◌, ◌-◌, subst, refl, sym, ap, ◌∙◌, arith, inl, inr, cases_eq, eq-eqb, ne_eqb, sum_by-insert, get_or-le-sum_by, slice_get_within, get_or_from_slice_get, ◌==◌, slice_get, slice_range, find, filter_map, remove, times, insertion_index, moved, Database, Entry, a_record, a_resource, entry_with, database_in, StoredDatabase, Store, unique_id, unique_ids, bytes_under, Accepted, store_of, with_changed, with_number, entries_of, with_entry_at, HasId, counted, replaced_if, entry_changed, without_data, Db, same-yes, same-no, has_id, times-ids, entries_here, attributes_changed, HasNumber, with_info, raised_if, ids_in, StandFree, StandFreeBeside, GetsNone, IsStore, KnownIds}
use Rattle.std.proofs.lemmas.List.Elements.{All-set, All-take, All-drop}
use Rattle.std.proofs.lemmas.List.Sums.{sum_by-le}
use Rattle.fresh_ids.specs.FreeIds.{IsInRange, AreFree, IsWithout}
use Rattle.fresh_ids.specs.declared.stretch.FreeIds.{FreeIds}
use Rattle.palm_store.specs.declared.entries.infos.EntryInfo.TheVariants as infos
use Rattle.palm_store.proofs.AttributeChanges.{ids_kept}
use Rattle.palm_store.proofs.EntryChanges.{with_entry_set}

-- no ID at all is known to be free, so an accepted image is a store
pub nothing_known : (image : List ℕ) → Accepted image → IsStore image (record { db = record { 0 = 0 }; ids = record { first = 0; end = 0 } })
nothing_known image accepted = record { accepted = accepted; free = λ id among. absurd (omega arith) }

abbrev ids_found : List StoredDatabase → ℕ → List ℕ
ids_found stored number = filter_map unique_id (entries_of (find (λ one. one.db == number) stored))

pub stand_still : (old new : Store) (known : KnownIds) → new.databases ≡ old.databases → StandFree old known → StandFree new known
stand_still old new known same free = λ id among. rw same (free id among)

-- one database is changed: no database gets an ID that it had not
abbrev LacksStill : ℕ → (Database ℕ → Database ℕ) → Type 0
LacksStill id change = (database : Database ℕ) → times id (unique_ids database) ≡ 0 → times id (unique_ids (change database)) ≡ 0

-- the first database is another of its number, and others come after it
first_lacks : (id number : ℕ) (one now : StoredDatabase) (stored rest : List StoredDatabase) → now.db ≡ one.db → (times id (unique_ids one.database) ≡ 0 → times id (unique_ids now.database) ≡ 0)
    → (times id (ids_found stored number) ≡ 0 → times id (ids_found rest number) ≡ 0) → times id (ids_found (one ∷ stored) number) ≡ 0 → times id (ids_found (now ∷ rest) number) ≡ 0
first_lacks id number one now stored rest same here behind = by (one.db == number) (now.db == number) (ap (λ (n : ℕ). n == number) same) where
  by : (was is : Bool) → is ≡ was → times id (filter_map unique_id (entries_of (if was then Some one else find (λ x. x.db == number) stored))) ≡ 0
      → times id (filter_map unique_id (entries_of (if is then Some now else find (λ x. x.db == number) rest))) ≡ 0
  by true true e = here
  by false false e = behind
  by was is e = absurd cc

changed_lacks : (id db number : ℕ) (change : Database ℕ → Database ℕ) (stored : List StoredDatabase) → LacksStill id change → times id (ids_found stored number) ≡ 0 → times id (ids_found (with_changed stored db change) number) ≡ 0
changed_lacks id db number change [] lacks = λ none. none
changed_lacks id db number change (one ∷ stored) lacks = elim (cases_eq one.db db) [
  | inl e ↦
      let now : StoredDatabase = record { db = db; database = change one.database } in
      rw (eq-eqb one.db db e) (first_lacks id number one now stored (with_changed stored db change) (sym e) (lacks one.database) (changed_lacks id db number change stored lacks))
  | inr ne ↦ rw (ne_eqb one.db db ne) (first_lacks id number one one stored (with_changed stored db change) refl (λ none. none) (changed_lacks id db number change stored lacks))
]

-- no record of the database of these has one of the IDs
abbrev HaveNone : List StoredDatabase → KnownIds → Type 0
HaveNone stored known = (id : ℕ) → IsInRange known.ids id → times id (ids_found stored known.db.0) ≡ 0

changed_free : (old new : List StoredDatabase) (db : ℕ) (change : Database ℕ → Database ℕ) (known : KnownIds) → new ≡ with_changed old db change → ((id : ℕ) → IsInRange known.ids id → LacksStill id change) → HaveNone old known → HaveNone new known
changed_free old new db change known is lacks free = λ id among. rw is (changed_lacks id db known.db.0 change old (lacks id among) (free id among))

-- the modification number is raised
pub raised_free : (old new : Store) (db : ℕ) (known : KnownIds) → new.databases ≡ with_changed old.databases db counted → StandFree old known → StandFree new known
raised_free old new db known is = changed_free old.databases new.databases db counted known is (λ id among database none. none)

-- it is after another change
counted_free : (old new : List StoredDatabase) (db : ℕ) (change : Database ℕ → Database ℕ) (known : KnownIds) → new ≡ with_changed (with_changed old db change) db counted
    → ((id : ℕ) → IsInRange known.ids id → LacksStill id change) → HaveNone old known → HaveNone new known
counted_free old new db change known is lacks free =
    changed_free (with_changed old db change) new db counted known is (λ id among database none. none) (changed_free old (with_changed old db change) db change known refl lacks free)

-- the entries of one database are changed: no entry has the ID
abbrev Lack : ℕ → List (Entry ℕ) → Type 0
Lack id entries = All (λ entry. has_id id entry ≤ 0) entries

entries_lack : (id : ℕ) (change : Database ℕ → Database ℕ) → ((database : Database ℕ) → Lack id database.entries → Lack id (change database).entries) → LacksStill id change
entries_lack id change keeps database none =
    let was = times-ids id database in
    let now = times-ids id (change database) in
    let lack : Lack id database.entries = λ k entry below. let least = get_or-le-sum_by (has_id id) database.entries k entry below in omega arith in
    let most = sum_by-le (has_id id) 0 (change database).entries (keeps database lack) in
    omega arith

other_id : (id : ℕ) (entry : Entry ℕ) → (HasId id entry → ⊥) → has_id id entry ≡ 0
unfolding has_id
other_id id (a_record attributes other slot) ne = same-no other id (λ e. ne (ap (λ (n : ℕ). Some n) e))
other_id id (a_resource kind other slot) ne = refl

-- an entry comes
pub come_free : (old new : Store) (db at : ℕ) (entry : Entry ℕ) (known : KnownIds)
    → new.databases ≡ with_changed (with_changed old.databases db (with_entry_at at entry)) db counted → StandFreeBeside old entry known → StandFree new known
come_free old new db at entry known is free = counted_free old.databases new.databases db (with_entry_at at entry) known is lacks (λ id among. (free id among).0) where
  lacks : (id : ℕ) → IsInRange known.ids id → LacksStill id (with_entry_at at entry)
  lacks id among database none =
      let now = times-ids id (with_entry_at at entry database) in
      let was = times-ids id database in
      let sum = sum_by-insert (has_id id) database.entries at entry in
      let other = other_id id entry (free id among).1 in
      omega arith

-- an entry goes
without_entry : (id index : ℕ) (entries : List (Entry ℕ)) → Lack id entries → Lack id (remove entries index)
without_entry id index entries lack =
    let P : Entry ℕ → Type 0 = λ entry. has_id id entry ≤ 0 in
    All-append P (take index entries) (drop (suc index) entries) (All-take P index entries lack) (All-drop P (suc index) entries lack)

pub go_free : (old new : Store) (db index : ℕ) (known : KnownIds)
    → new.databases ≡ with_changed (with_changed old.databases db (λ database. record database { entries = remove database.entries index })) db counted → StandFree old known → StandFree new known
go_free old new db index known is =
    let change : Database ℕ → Database ℕ = λ database. record database { entries = remove database.entries index } in
    counted_free old.databases new.databases db change known is (λ id among. entries_lack id change (λ database. without_entry id index database.entries))

-- the slot of its data says nothing of its ID
id_kept : (slot : ℕ) (entry : Entry ℕ) → unique_id (entry_with (λ (none : ℕ). slot) entry) ≡ unique_id entry
id_kept slot (a_record attributes id none) = refl
id_kept slot (a_resource kind id none) = refl

pub beside_named : (store : Store) (entry : Entry ℕ) (slot : ℕ) (known : KnownIds) → StandFreeBeside store entry known → StandFreeBeside store (entry_with (λ (none : ℕ). slot) entry) known
beside_named store entry slot known free = rw (id_kept slot entry) free

no_id : (id : ℕ) (entry : Entry ℕ) → has_id id entry ≤ 0 → HasId id entry → ⊥
unfolding has_id
no_id id (a_record attributes other slot) none has = let one = same-yes other id cc in omega arith
no_id id (a_resource kind other slot) none has = cc

changed_lack : (id index : ℕ) (change : Entry ℕ → Entry ℕ) (entries : List (Entry ℕ)) (found : Option (Entry ℕ)) → ((other : Entry ℕ) → HasId id (change other) → HasId id other) → slice_get entries index ≡ found → Lack id entries
    → Lack id (replaced_if entries index change found)
changed_lack id index change entries None gets at lack = lack
changed_lack id index change entries (Some entry) gets at lack =
    let none : has_id id entry ≤ 0 = rw (get_or_from_slice_get entries index entry entry at) at (lack index entry (slice_get_within entries index entry at)) in
    let still = other_id id (change entry) (λ has. no_id id entry none (gets entry has)) in
    All-set (λ entry. has_id id entry ≤ 0) entries index (change entry) (omega arith) lack

-- the entry of an index is changed, and gets none of the IDs
pub change_free : (counts : Bool) (old mid new : Store) (db : Db) (index : ℕ) (change : Entry ℕ → Entry ℕ) (known : KnownIds)
    → mid.databases ≡ (entry_changed old db index change).databases → new.databases ≡ (raised_if counts mid db).databases → GetsNone known change → StandFree old known → StandFree new known
change_free counts old mid new db index change known is then_is gets free = by counts then_is where
  changed : StandFree mid known
  changed = changed_free old.databases mid.databases db.0 (with_entry_set index change) known is
      (λ id among. entries_lack id (with_entry_set index change) (λ database. changed_lack id index change database.entries (slice_get database.entries index) (gets id among) refl)) free

  by : (counts : Bool) → new.databases ≡ (raised_if counts mid db).databases → StandFree new known
  by true then_is = raised_free mid new db.0 known then_is changed
  by false then_is = stand_still mid new known then_is changed

-- an entry without its data has its ID
pub emptied_gets : (known : KnownIds) → GetsNone known without_data
emptied_gets known id among (a_record attributes other slot) has = has
emptied_gets known id among (a_resource kind other slot) has = has

-- one with other data has its ID too
pub named_gets : (known : KnownIds) (slot : ℕ) (change : Entry ℕ → Entry ℕ) → GetsNone known change → GetsNone known (λ entry. entry_with (λ (none : ℕ). slot) (change entry))
named_gets known slot change gets id among entry has = gets id among entry (rw (id_kept slot (change entry)) at has)

moved_lack : (id from to : ℕ) (entries : List (Entry ℕ)) → Lack id entries → Lack id (moved entries from to)
moved_lack id from to entries lack =
    let P : Entry ℕ → Type 0 = λ entry. has_id id entry ≤ 0 in
    let rest : List (Entry ℕ) = remove entries from in
    let others : Lack id rest = without_entry id from entries lack in
    let one : Lack id (slice_range entries from (from + 1)) = All-take P (from + 1 - from) (drop from entries) (All-drop P from entries lack) in
    let at : ℕ = insertion_index from to in
    All-append P (take at rest ++ slice_range entries from (from + 1)) (drop at rest) (All-append P (take at rest) (slice_range entries from (from + 1)) (All-take P at rest others) one) (All-drop P at rest others)

pub move_free : (old new : Store) (db from to : ℕ) (known : KnownIds)
    → new.databases ≡ with_changed (with_changed old.databases db (λ database. record database { entries = moved database.entries from to })) db counted → StandFree old known → StandFree new known
move_free old new db from to known is =
    let change : Database ℕ → Database ℕ = λ database. record database { entries = moved database.entries from to } in
    counted_free old.databases new.databases db change known is (λ id among. entries_lack id change (λ database. moved_lack id from to database.entries))

-- all records get other attributes
pub attributes_free : (old new : Store) (db : ℕ) (change : ℕ → ℕ) (known : KnownIds) → new.databases ≡ with_changed old.databases db (attributes_changed change) → StandFree old known → StandFree new known
attributes_free old new db change known is = changed_free old.databases new.databases db (attributes_changed change) known is (λ id among database none. rw (ids_kept change database.entries) none)

-- known IDs without one
left_among : (old left : FreeIds) (one id : ℕ) → IsWithout old one left → IsInRange left id → IsInRange old id × (one ≢ id)
left_among old left one id without among = elim (cases_among old one) [
  | inl here ↦ (let both = (without.behind here id).0 among in (both.0, λ e. (let behind = both.1 in absurd (omega (arith, behind, e)))))
  | inr apart ↦ (let was : IsInRange old id = subst (λ (free : FreeIds). IsInRange free id) (without.apart apart) among in (was, λ e. apart (subst (IsInRange old) (sym e) was)))
] where
  cases_among : (free : FreeIds) (id : ℕ) → IsInRange free id ⊎ (IsInRange free id → ⊥)
  cases_among free id = grind arith

pub left_free : (store : Store) (known : KnownIds) (left : FreeIds) (one : ℕ) → IsWithout known.ids one left → StandFree store known → StandFree store (record { db = known.db; ids = left })
left_free store known left one without free = λ id among. free id (left_among known.ids left one id without among).0

pub left_gets : (known : KnownIds) (left : FreeIds) (attributes one : ℕ) → IsWithout known.ids one left → GetsNone (record { db = known.db; ids = left }) (with_info (infos.Record attributes one))
left_gets known left attributes one without id among (a_record old_attributes other slot) has = absurd ((left_among known.ids left one id without among).1 cc)
left_gets known left attributes one without id among (a_resource kind other slot) has = has

-- a new entry
pub same_number : (store : Store) (one other : Db) → one.0 ≡ other.0 → ids_in store one ≡ ids_in store other
same_number store one other same = ap (λ (number : ℕ). filter_map unique_id (entries_of (with_number store number))) same

-- the IDs that are known of a database, and what is left of them without one
pub ids_here : (image body : List ℕ) (db : Db) → HasNumber image db.0 → body ≡ bytes_under image db.0 → ids_in (store_of image) db ≡ unique_ids (database_in body)
ids_here image body db has is = ap (filter_map unique_id) (entries_here image db has) ∙ ap (λ (bytes : List ℕ). unique_ids (database_in bytes)) (sym is)

pub left_beside : (store : Store) (db : Db) (free left : FreeIds) (attributes id slot : ℕ) → AreFree (ids_in store db) free → IsWithout free id left → IsInRange free id → StandFreeBeside store (a_record attributes id slot) (record { db = db; ids = left })
left_beside store db free left attributes id slot all without here =
    λ other among. let both = left_among free left id other without among in (all other both.0, λ e. both.1 cc)

pub resource_beside : (store : Store) (kind id slot : ℕ) (known : KnownIds) → StandFree store known → StandFreeBeside store (a_resource kind id slot) known
resource_beside store kind id slot known free = λ other among. (free other among, λ e. absurd cc)
