-- Changes of the databases of an image are steps of the store.
use Rattle.laws_store.proofs.Words.{◌≡◌, ℕ, ◌≤◌, Bool, true, false, Option, Some, None, List, [], ◌∷◌, ◌++◌, set, refl, sym, ap, subst, ◌∙◌, arith, inl, inr, cases_eq, slice_get_within, get_or_from_slice_get, ◌==◌, if◌then◌else◌, slice_get, HeapAccepted, LiveChunk, ChunkMap, held, not_owned, callers_map, same, times, Database, data_in, StoredDatabase, owner_of, owner_under, databases, numbers_of, Accepted, store_of, all_gone, with_changed, without_database, named_in, Db, HasDatabases, Rewrites, Appends, Drops, Clears, HasStore}
use Rattle.heap_model.specs.Placing.{SameFrame}
use Rattle.heap_model.specs.DatabaseSteps as steps
use Rattle.laws_store.proofs.Times.{same-yes, same-no, distinct-times}
use Rattle.laws_store.proofs.Owners.{owned_some}
use Rattle.laws_store.proofs.Counts.{same-is, has_databases, databases_are, numbers_distinct, accepted_with}
use Rattle.laws_store.proofs.KeptDatabases.{databases_kept}
use Rattle.laws_store.proofs.RewrittenDatabases.{rewritten}
use Rattle.laws_store.proofs.Listed as listed
use Rattle.laws_store.proofs.Edited.{hidden}
use Rattle.laws_store.proofs.Found.{found_here, changed_by_number, without_by_number}

-- an image that has some databases means the store of these, and of what callers may name
pub has_store : (image : List ℕ) (map : ChunkMap) (stored : List StoredDatabase)
    → HasDatabases image stored → ((name : ℕ) → callers_map image name ≡ map name)
    → HasStore image (record { map = map; databases = stored })
unfolding store_of
has_store image map stored h same = record {
  accepted = accepted_with image stored h;
  same = record { map = same; databases = databases_are image stored h };
}

-- no two databases of an accepted image have one number
pub number_once : (image : List ℕ) (db : ℕ) → Accepted image
    → times db (numbers_of (databases image)) ≤ 1
number_once image db a = distinct-times _ (numbers_distinct image _ (has_databases image a)) db

-- ---- one changed

-- What callers may name can have changed too.
pub set_steps : (old new : List ℕ) (db index : ℕ) (was : StoredDatabase)
    (change : Database ℕ → Database ℕ) (map : ChunkMap) → Accepted old
    → slice_get (databases old) index ≡ Some was → was.db ≡ db
    → Rewrites old new (databases old) index (record { db = db; database = change was.database })
    → ((name : ℕ) → callers_map new name ≡ map name)
    → HasStore new (record { map = map; databases = with_changed (databases old) db change })
set_steps old new db index was change map a at number r same =
    let here = get_or_from_slice_get (databases old) index was was at in
    let changed : with_changed (databases old) db change
    ≡ set (databases old) index (record { db = db; database = change was.database }) =
    changed_by_number db change (databases old) index was (number_once old db a)
    (slice_get_within (databases old) index was at) (ap (λ s. s.db) here ∙ number)
    ∙ ap (λ s. set (databases old) index (record { db = db; database = change s.database })) here in
    let has = rewritten old new (databases old) index _ (has_databases old a) r in
    has_store new map (with_changed (databases old) db change) (rw (← changed) at has) same

-- ---- one more

pub create_steps : (old new : List ℕ) (one : StoredDatabase) → Accepted old
    → Appends old new (databases old) one
    → ((name : ℕ) → callers_map new name ≡ callers_map old name)
    → HasStore new (record (store_of old) { databases = (store_of old).databases ++ (one ∷ []) })
unfolding store_of
create_steps old new one a p same = has_store new (callers_map old) (databases old ++ one ∷ [])
    (listed.appended old new (databases old) one (has_databases old a) p) same

-- ---- one less

abbrev if_left : Bool → Option LiveChunk → Option LiveChunk
if_left left o = if left then o else None

left_shown : (left : Bool) (o : Option LiveChunk)
    → not_owned 0 (if_left left o) ≡ if_left left (not_owned 0 o)
left_shown true o = refl
left_shown false o = refl

none_left : (left : Bool) → if_left left None ≡ None
none_left true = refl
none_left false = refl

cleared : (old new : List ℕ) (index : ℕ) (one : StoredDatabase) → HeapAccepted old
    → Drops old new (databases old) index one → Clears old new one → (name : ℕ)
    → callers_map new name ≡ all_gone (callers_map old) (data_in one.database) name
unfolding owner_under
cleared old new index one heap p c name =
    let left : Bool = times name (data_in one.database) == 0 in
    elim (cases_eq (owner_under old name) 0) [
      | inl own ↦
          let nothing = ap (if_left left) (hidden (held old name) own) ∙ none_left left in
          let gone : callers_map new name ≡ None = elim (cases_eq name one.db) [
            | inl header ↦ ap (callers_map new) header ∙ ap (not_owned 0) c.header
            | inr other ↦
                let some = owned_some old name 0 heap own (omega arith) in
                let owners = p.owners name some in
                let yes = same-yes (owner_under old name) 0 own in
                let no = same-no name one.db other in
                hidden (held new name) (same-is (owner_under new name) 0 (omega arith))
          ] in
          gone ∙ sym nothing
      | inr other ↦ ap (not_owned 0) (c.others name other) ∙ left_shown left (held old name)
    ]

pub drop_steps : (old new : List ℕ) (db : Db) (index : ℕ) (one : StoredDatabase) → Accepted old
    → one.db ≡ db.0 → Drops old new (databases old) index one → Clears old new one
    → HasStore new (steps.dropped (store_of old) db)
unfolding store_of
drop_steps old new db index one a number p c =
    let stands = ap (λ s. s.db) (sym p.is) ∙ number in
    let once = number_once old db.0 a in
    let found = found_here db.0 _ index one once p.inside stands ∙ ap (λ s. Some s) (sym p.is) in
    let out = without_by_number db.0 (databases old) index one once p.inside stands in
    let has = listed.dropped old new (databases old) index one (has_databases old a) p in
    has_store new _ (without_database (databases old) db.0)
    (subst (λ (all : List StoredDatabase). HasDatabases new all) (sym out) has)
    (λ name. cleared old new index one a.heap p c name
    ∙ ap (λ o. all_gone (callers_map old) (named_in o) name) (sym found))

-- ---- none changed

pub same_steps : (old new : List ℕ) → Accepted old → SameFrame old new
    → ((name : ℕ) → held new name ≡ held old name) → HasStore new (store_of old)
unfolding store_of owner_under
same_steps old new a frame same =
    let owner : (name : ℕ) → owner_under new name ≡ owner_under old name =
    λ name. ap owner_of (same name) in
    let has = databases_kept old new (databases old) (has_databases old a) (record {
      heap = frame.accepted;
      directory = frame.directory;
      managers = λ name own. same name;
      owners = λ name. (λ z. sym (owner name) ∙ z, λ z. owner name ∙ z);
      «data» = λ name. (λ z. sym (owner name) ∙ z, λ z. owner name ∙ z);
    }) in
    has_store new (callers_map old) (databases old) has (λ name. ap (not_owned 0) (same name))
