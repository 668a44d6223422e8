-- Images in which one database and some chunks were edited, or one chunk alone, mean the store with
-- these.
use Rattle.laws_store.proofs.Words.{◌≡◌, ◌≢◌, ℕ, ◌+◌, ◌<◌, List, [], length, get_or, set, replicate, ◌≤◌, Option, Some, None, refl, sym, ap, subst, ◌∙◌, arith, inl, inr, cases_eq, get_or-set_same, get_or-set_other, length-set, length-map, map-set, get_or-map, slice_get_within, get_or_from_slice_get, All-nil, All-cons, IsSome, All, slice_get, managers_owner, data_owner, sized_to, LiveChunk, held, updated, changed, changed_at, sized, made, not_owned, callers_map, same, times, Distinct, Leaves, rewritten, database_here, Respells, NamesData, IsSound, Database, Entry, entry_data, data_in, has_resources, EntryFits, spelled, StoredDatabase, owner_of, owner_under, database_under, databases, names_of, unique_ids, Accepted, store_of, with_changed, with_number, IsTaken, most_entries, with_entry_at, entry_made, with_chunks, LeavesStore, Db, none_some, same_some, HasNewId, Rewrites, HasStore, Change, all_updated, IsCallersChange, Edits}
use Rattle.laws_store.proofs.Counts.{has_databases}
use Rattle.laws_store.proofs.KeptDatabases.{databases_kept}
use Rattle.laws_store.proofs.RewrittenDatabases.{names_set, other_number, get-any}
use Rattle.laws_store.proofs.ChangeSteps.{has_store, set_steps}
use Rattle.laws_store.proofs.ChangeSteps as stepping
use Rattle.laws_store.proofs.Numbered.{number_stands, number_slot, number_held, accepted_sound}
use Rattle.laws_store.proofs.Entries.{inserted_sound, inserted_names, seeded_name}
use Rattle.laws_store.proofs.Edited.{here, apart, shown, lock_same, one_change, edited, managers_held, body_edited, locks_edited, owners_edited, callers_edited, made_balance, kept_balance}

-- ---- one database and some chunks edited

-- what an edit needs to be one, whether the database keeps its name or not
record Parts (old new : List ℕ) (db : ℕ) (d : Database ℕ) (changes : List Change) : Type 0 where
  leaves : Leaves old new (edited (held old) db (spelled d) changes)
  sound : IsSound d
  each : All (IsCallersChange old) changes
  balance : (other : ℕ) → 0 < other
      → times other (data_in d) + same (owner_under old other) data_owner
      ≡ times other (data_in (database_here old db)) + same (owner_under new other) data_owner

rewrites : (old new : List ℕ) (db index : ℕ) (d : Database ℕ) (changes : List Change) → Accepted old
    → IsSome (with_number (store_of old) db)
    → slice_get (databases old) index ≡ Some (database_under old db) → Parts old new db d changes
    → Distinct (names_of (set (databases old) index (record { db = db; database = d })))
    → Rewrites old new (databases old) index (record { db = db; database = d })
rewrites old new db index d changes a has at p names =
    let one : StoredDatabase = record { db = db; database = d } in
    let was : StoredDatabase = database_under old db in
    let stands = get_or_from_slice_get (databases old) index was one at in
    let slot = number_slot old db a has in
    record {
      heap = p.leaves.frame.accepted;
      directory = p.leaves.frame.directory;
      inside = slice_get_within (databases old) index was at;
      number = sym (ap (λ (x : StoredDatabase). x.db) stands);
      whole = record {
        spelled = record {
          fits = p.sound.fits;
          bytes_are = body_edited old new db (spelled d) changes p.leaves slot.owner p.each
              (number_held old db a has);
        };
        entries = p.sound.entries;
        ids = p.sound.ids;
      };
      own_names = names;
      managers = managers_held old new db (spelled d) changes p.leaves p.each;
      owners = owners_edited old new db (spelled d) changes p.leaves slot.owner p.each;
      balance = λ other some. p.balance other some ∙ ap (λ x.
          times other (data_in x.database) + same (owner_under new other) data_owner) (sym stands);
    }

steps : (old new : List ℕ) (db index : ℕ) (change : Database ℕ → Database ℕ) (changes : List Change)
    → Accepted old → IsSome (with_number (store_of old) db)
    → slice_get (databases old) index ≡ Some (database_under old db)
    → Parts old new db (change (database_here old db)) changes → Distinct (names_of
    (set (databases old) index (record { db = db; database = change (database_here old db) })))
    → HasStore new
    (record {
      map = all_updated (callers_map old) changes;
      databases = with_changed (databases old) db change;
    })
steps old new db index change changes a has at p names =
    let d : Database ℕ = change (database_here old db) in
    let slot = number_slot old db a has in
    set_steps old new db index (database_under old db) change (all_updated
    (callers_map old) changes) a at refl (rewrites old new db index d changes a has at p names)
    (callers_edited old new db (spelled d) changes p.leaves slot.owner p.each)

-- the names of all, where that of one database stays
names_kept : (image : List ℕ) (db index : ℕ) (d : Database ℕ) → Accepted image
    → slice_get (databases image) index ≡ Some (database_under image db)
    → d.header.name ≡ (database_here image db).header.name
    → Distinct (names_of (set (databases image) index (record { db = db; database = d })))
names_kept image db index d a at name =
    let one : StoredDatabase = record { db = db; database = d } in
    let was : StoredDatabase = database_under image db in
    let stands = get_or_from_slice_get (databases image) index was one at in
    subst (λ (names : List (List ℕ)). Distinct names)
    (sym (names_set (databases image) index one (slice_get_within (databases image) index was at)
    (name ∙ sym (ap (λ x. x.database.header.name) stands)))) a.own_names

pub edit_steps : (old new : List ℕ) (db : Db) (change : Database ℕ → Database ℕ)
    (changes : List Change) → Accepted old → IsSome (with_number (store_of old) db.0)
    → Edits old new db.0 (change (database_here old db.0)) changes → LeavesStore old new
    (record {
      map = all_updated (callers_map old) changes;
      databases = with_changed (databases old) db.0 change;
    })
edit_steps old new db change changes a has s =
    let d : Database ℕ = change (database_here old db.0) in
    let at = number_stands old db.0 has in
    let slot = number_slot old db.0 a has in
    let store = steps old new db.0 at.0 change changes a has at.1
    (record { leaves = s.leaves; sound = s.sound; each = s.each; balance = s.balance })
    (names_kept old db.0 at.0 d a at.1 s.same_name) in
    record {
      accepted = store.accepted;
      same = store.same;
      len = s.leaves.frame.len;
      tables = s.leaves.frame.tables;
      directory = s.leaves.frame.directory;
      locks = locks_edited old new db.0 (spelled d) changes s.leaves slot.owner s.each;
      still = s.leaves.still;
    }

-- each change, where there is one
pub each_one : (image : List ℕ) (name : ℕ) (now : Option LiveChunk)
    → IsCallersChange image (record { name = name; now = now })
    → All (IsCallersChange image) (one_change name now)
each_one image name now is = All-cons (IsCallersChange image)
    (record { name = name; now = now }) [] is (All-nil (IsCallersChange image))

-- ---- an entry that came, with its data

-- what comes with a database that is written for it
pub made_edit : (old new : List ℕ) (db : ℕ) (d : Database ℕ) (slot size : ℕ)
    → Leaves old new (made (rewritten (held old) db (spelled d)) slot size data_owner 0)
    → held old slot ≡ None → IsSound d → d.header.name ≡ (database_here old db).header.name
    → ((q : ℕ) → times q (data_in d) ≡ times q (data_in (database_here old db)) + same slot q)
    → Edits old new db d
    (one_change slot (Some (record { bytes = replicate size 0; lock = 0; owner = data_owner })))
unfolding owner_under
made_edit old new db d slot size l none sound name counts =
    let chunk : LiveChunk = record { bytes = replicate size 0; lock = 0; owner = data_owner } in
    let was : owner_under old slot ≡ 16 = ap owner_of none in
    record {
      leaves = l;
      sound = sound;
      same_name = name;
      each = each_one old slot (Some chunk) (record {
        callers = λ z. omega arith;
        callers_now = λ z. omega arith;
        locks = λ before after there is. absurd (none_some (held old slot) before none there);
      });
      balance = made_balance old new db (spelled d) slot (Some chunk) l (database_here old db) d
          (λ z. omega arith) refl (λ q some. counts q);
    }

pub make_steps : (old new : List ℕ) (db : Db) (index : ℕ) (e : Entry ℕ) (size : ℕ) → Accepted old
    → IsSome (with_number (store_of old) db.0) → Leaves old new (made (rewritten (held old) db.0
    (spelled (with_entry_at index e (database_here old db.0)))) (entry_data e) size data_owner 0)
    → held old (entry_data e) ≡ None
    → EntryFits (has_resources (database_here old db.0).header.attributes) e → NamesData e
    → HasNewId (unique_ids (database_here old db.0)) e
    → index ≤ length (database_here old db.0).entries
    → length (database_here old db.0).entries < most_entries
    → LeavesStore old new (entry_made (store_of old) db index e size)
unfolding store_of
make_steps old new db index e size a has l none fits names own inside few =
    let d : Database ℕ = database_here old db.0 in
    edit_steps old new db (with_entry_at index e) _ a has
    (made_edit old new db.0 (with_entry_at index e d) (entry_data e) size l none
    (inserted_sound d index e (accepted_sound old db.0 a has) fits names own inside few)
    (seeded_name e d.header) (λ q. inserted_names q d index e))

-- ---- one database alone

-- what a database needs that became another with the same data
respell_parts : (old new : List ℕ) (db : ℕ) (d : Database ℕ) → Respells old new db d → IsSound d
    → ((q : ℕ) → 0 < q → times q (data_in d) ≡ times q (data_in (database_here old db)))
    → Parts old new db d []
respell_parts old new db d l sound counts = record {
  leaves = l;
  sound = sound;
  each = All-nil (IsCallersChange old);
  balance = kept_balance old new db (spelled d) l (database_here old db) d counts;
}

-- a database that became another, of the same name and with the same data
pub respell_steps : (old new : List ℕ) (db : Db) (change : Database ℕ → Database ℕ) → Accepted old
    → IsSome (with_number (store_of old) db.0)
    → Respells old new db.0 (change (database_here old db.0))
    → IsSound (change (database_here old db.0))
    → (change (database_here old db.0)).header.name ≡ (database_here old db.0).header.name
    → ((q : ℕ) → 0 < q → times q (data_in (change (database_here old db.0)))
    ≡ times q (data_in (database_here old db.0))) → LeavesStore old new
    (record (store_of old) { databases = with_changed (store_of old).databases db.0 change })
unfolding store_of
respell_steps old new db change a has l sound name counts =
    let p = respell_parts old new db.0 (change (database_here old db.0)) l sound counts in
    edit_steps old new db change [] a has (record {
      leaves = p.leaves;
      sound = sound;
      same_name = name;
      each = p.each;
      balance = p.balance;
    })

-- ---- one database renamed

distinct-set : {X : Type 0} (xs : List X) (i : ℕ) (x : X) → i < length xs → Distinct xs
    → ((k : ℕ) (d : X) → k < length xs → k ≢ i → get_or xs k d ≢ x) → Distinct (set xs i x)
distinct-set xs i x inside distinct others a b d less below e =
    let len = length-set xs i x in
    elim (cases_eq a i) [
      | inl here ↦
          let apart : b ≢ i = λ there. (let no : a < b = less in omega arith) in
          others b d (omega arith) apart (sym (get_or-set_other xs i b x d apart) ∙ sym e
          ∙ ap (λ k. get_or (set xs i x) k d) here ∙ get_or-set_same xs i x d inside)
      | inr apart ↦ elim (cases_eq b i) [
        | inl there ↦ others a d (omega arith) apart (sym (get_or-set_other xs i a x d apart) ∙ e
            ∙ ap (λ k. get_or (set xs i x) k d) there ∙ get_or-set_same xs i x d inside)
        | inr away ↦ distinct a b d less (omega arith)
            (sym (get_or-set_other xs i a x d apart) ∙ e ∙ get_or-set_other xs i b x d away)
      ]
    ]

-- no other database has the name
other_names : (image : List ℕ) (db index : ℕ) (name : List ℕ) → Accepted image
    → slice_get (databases image) index ≡ Some (database_under image db)
    → (IsTaken (store_of image) db name → ⊥) → (k : ℕ) (d : StoredDatabase)
    → k < length (databases image) → k ≢ index
    → (get_or (databases image) k d).database.header.name ≢ name
unfolding store_of
other_names image db index name a at free k d inside apart e =
    let one : StoredDatabase = get_or (databases image) k d in
    let was : StoredDatabase = database_under image db in
    let here = get_or_from_slice_get (databases image) index was d at in
    let number : one.db ≢ db =
    λ same. other_number image (databases image) index k d (has_databases image a) (slice_get_within
    (databases image) index was at) inside apart (same ∙ sym (ap (λ x. x.db) here)) in
    free (k, one, inside, get-any (databases image) k one d inside, (number, e))

name_at : (image : List ℕ) (k : ℕ) (d : StoredDatabase) (n : List ℕ) → k < length (databases image)
    → get_or (names_of (databases image)) k n ≡ (get_or (databases image) k d).database.header.name
name_at image k d n inside =
    get_or-map (λ one. one.database.header.name) (databases image) k d n inside

names_free : (image : List ℕ) (db index : ℕ) (d : Database ℕ) → Accepted image
    → slice_get (databases image) index ≡ Some (database_under image db)
    → (IsTaken (store_of image) db d.header.name → ⊥)
    → Distinct (names_of (set (databases image) index (record { db = db; database = d })))
names_free image db index d a at free =
    let one : StoredDatabase = record { db = db; database = d } in
    let inside = slice_get_within (databases image) index (database_under image db) at in
    let many = length-map (databases image) (λ (x : StoredDatabase). x.database.header.name) in
    subst (λ (names : List (List ℕ)). Distinct names)
    (sym (map-set (λ x. x.database.header.name) (databases image) index one))
    (distinct-set (names_of (databases image)) index d.header.name (omega arith) a.own_names
    (λ k n below away e. other_names image db index d.header.name a at free k one (omega arith) away
    (sym (name_at image k one n (omega arith)) ∙ e)))

-- a database that became another, of a name that no other has, and with the same data
pub rename_steps : (old new : List ℕ) (db : ℕ) (change : Database ℕ → Database ℕ) → Accepted old
    → IsSome (with_number (store_of old) db) → Respells old new db (change (database_here old db))
    → IsSound (change (database_here old db))
    → (IsTaken (store_of old) db (change (database_here old db)).header.name → ⊥) → ((q : ℕ) → 0 < q
    → times q (data_in (change (database_here old db))) ≡ times q (data_in (database_here old db)))
    → HasStore new
    (record (store_of old) { databases = with_changed (store_of old).databases db change })
unfolding store_of
rename_steps old new db change a has l sound free counts =
    let d : Database ℕ = change (database_here old db) in
    let at = number_stands old db has in
    steps old new db at.0 change [] a has at.1 (respell_parts old new db d l sound counts)
    (names_free old db at.0 d a at.1 free)

-- ---- one chunk edited that callers may name

pub callers_steps : (old new : List ℕ) (name : ℕ) (now : Option LiveChunk) → Accepted old
    → Leaves old new (updated (held old) name now) → owner_under old name ≢ managers_owner
    → owner_of now ≡ owner_under old name → ((before after : LiveChunk)
    → held old name ≡ Some before → now ≡ Some after → after.lock ≡ before.lock)
    → LeavesStore old new (with_chunks (store_of old) (updated (callers_map old) name now))
unfolding owner_under store_of
callers_steps old new name now a l was is locks =
    let chunk : (other : ℕ) → other ≡ name → held new other ≡ now = λ other e. l.map other
    ∙ here (held old) name now other e in
    let rest : (other : ℕ) → other ≢ name → held new other ≡ held old other =
    λ other ne. l.map other ∙ apart (held old) name now other ne in
    let owner : (other : ℕ) → owner_under new other ≡ owner_under old other =
    λ other. elim (cases_eq other name) [
      | inl e ↦ ap owner_of (chunk other e) ∙ is ∙ sym (ap (owner_under old) e)
      | inr ne ↦ ap owner_of (rest other ne)
    ] in
    let loose : owner_of now ≢ 0 = λ e. was (sym is ∙ e) in
    let has = databases_kept old new (databases old) (has_databases old a) (record {
      heap = l.frame.accepted;
      directory = l.frame.directory;
      managers = λ other own. rest other (λ e. was (ap (owner_under old) (sym e) ∙ own));
      owners = λ other. (λ z. sym (owner other) ∙ z, λ z. owner other ∙ z);
      «data» = λ other. (λ z. sym (owner other) ∙ z, λ z. owner other ∙ z);
    }) in
    let callers : (other : ℕ) → callers_map new other ≡ updated (callers_map old) name now other =
    λ other. elim (cases_eq other name) [
      | inl e ↦ ap (not_owned 0) (chunk other e) ∙ shown now loose
          ∙ sym (here (callers_map old) name now other e)
      | inr ne ↦ ap (not_owned 0) (rest other ne) ∙ sym (apart (callers_map old) name now other ne)
    ] in
    let store = has_store new (updated (callers_map old) name now) (databases old) has callers in
    record {
      accepted = store.accepted;
      same = store.same;
      len = l.frame.len;
      tables = l.frame.tables;
      directory = l.frame.directory;
      locks = λ other before after e f. elim (cases_eq other name) [
        | inl here ↦ locks before after (ap (held old) (sym here) ∙ e) (sym (chunk other here) ∙ f)
        | inr ne ↦ lock_same (held old other) (held new other) before after (rest other ne) e f
      ];
      still = l.still;
    }

-- one for data
pub chunk_steps : (old new : List ℕ) (name : ℕ) (now : Option LiveChunk) → Accepted old
    → Leaves old new (updated (held old) name now) → owner_under old name ≡ data_owner
    → owner_of now ≡ data_owner → ((before after : LiveChunk) → held old name ≡ Some before
    → now ≡ Some after → after.lock ≡ before.lock)
    → LeavesStore old new (with_chunks (store_of old) (updated (callers_map old) name now))
chunk_steps old new name now a l was is locks =
    callers_steps old new name now a l (λ e. omega arith) (is ∙ sym was) locks

owner_changed : (change : LiveChunk → LiveChunk)
    → ((live : LiveChunk) → (change live).owner ≡ live.owner) → (o : Option LiveChunk)
    → owner_of (changed change o) ≡ owner_of o
owner_changed change same None = refl
owner_changed change same (Some live) = same live

lock_changed : (change : LiveChunk → LiveChunk)
    → ((live : LiveChunk) → (change live).lock ≡ live.lock)
    → (o : Option LiveChunk) (before after : LiveChunk) → o ≡ Some before
    → changed change o ≡ Some after → after.lock ≡ before.lock
lock_changed change same None before after was is = absurd cc
lock_changed change same (Some live) before after was is =
    ap (λ l. l.lock) (sym (same_some (change live) after is)) ∙ same live
    ∙ ap (λ l. l.lock) (same_some live before was)

-- a change of it that keeps its owner and its locks
pub callers_change : (old new : List ℕ) (name : ℕ) (change : LiveChunk → LiveChunk)
    → ((live : LiveChunk) → (change live).owner ≡ live.owner)
    → ((live : LiveChunk) → (change live).lock ≡ live.lock) → Accepted old
    → Leaves old new (changed_at (held old) name change) → owner_under old name ≢ managers_owner
    → LeavesStore old new (with_chunks (store_of old) (changed_at (callers_map old) name change))
unfolding owner_under
callers_change old new name change owner lock a l own =
    let now : Option LiveChunk = changed change (held old name) in
    let callers = ap (changed change) (sym (shown (held old name) own)) in
    subst (λ o. LeavesStore old new (with_chunks (store_of old) (updated (callers_map old) name o)))
    callers
    (callers_steps old new name now a l own (owner_changed _ owner _) (lock_changed change lock _))

pub change_steps : (old new : List ℕ) (name : ℕ) (change : LiveChunk → LiveChunk)
    → ((live : LiveChunk) → (change live).owner ≡ live.owner)
    → ((live : LiveChunk) → (change live).lock ≡ live.lock) → Accepted old
    → Leaves old new (changed_at (held old) name change) → owner_under old name ≡ data_owner
    → LeavesStore old new (with_chunks (store_of old) (changed_at (callers_map old) name change))
change_steps old new name change owner lock a l own =
    callers_change old new name change owner lock a l (λ e. omega arith)

-- it has another length
pub resize_steps : (old new : List ℕ) (name size : ℕ) → Accepted old
    → Leaves old new (sized (held old) name size) → owner_under old name ≡ data_owner
    → LeavesStore old new (with_chunks (store_of old) (sized (callers_map old) name size))
resize_steps old new name size = change_steps old new name
    (λ live. record live { bytes = sized_to live.bytes size }) (λ live. refl) (λ live. refl)

-- ---- nothing edited

pub same_steps : (old new : List ℕ) → Accepted old → Leaves old new (held old)
    → LeavesStore old new (store_of old)
same_steps old new a l =
    let store = stepping.same_steps old new a l.frame l.map in
    record {
      accepted = store.accepted;
      same = store.same;
      len = l.frame.len;
      tables = l.frame.tables;
      directory = l.frame.directory;
      locks = λ name before after was is. lock_same _ _ before after (l.map name) was is;
      still = l.still;
    }
