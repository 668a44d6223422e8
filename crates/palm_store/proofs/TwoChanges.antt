-- A change of a store and another one after it, as the modification number raised.
use Rattle.palm_store.proofs.Words.{◌≡◌, ℕ, List, Option, Some, None, refl, sym, ap, ◌∙◌, arith, IsSome, is_some, LiveChunk, held, MovesNothing, MovesOneStretchAnd, StoredDatabase, Store, Accepted, store_of, SameStore, with_changed, raised, raised_header, LeavesStore, MakesNone, Db, same_some}

-- what is there
pub is_there : {X : Type 0} (x : Option X) → IsSome x → (one : X) × (x ≡ Some one)
is_there None some = absurd cc
is_there (Some one) some = (one, refl)

-- a change that leaves a store, and another one after it
pub left_after : (old mid new : List ℕ) (left change store : Store) → LeavesStore old mid left → LeavesStore mid new change → SameStore change store → MakesNone mid new → LeavesStore old new store
left_after old mid new left change store one two same none = record {
  accepted = two.accepted;
  same = record { map = λ name. two.same.map name ∙ same.map name; databases = two.same.databases ∙ same.databases };
  len = two.len ∙ one.len;
  tables = two.tables ∙ one.tables;
  directory = two.directory ∙ one.directory;
  locks = λ name before after was now.
      (let between = is_there (held mid name) (none name (ap is_some now)) in
      two.locks name between.0 after between.1 now ∙ one.locks name before between.0 was between.1);
  still = λ name live was locked there.
      (let between = is_there (held mid name) (none name there) in
      let same_lock = one.locks name live between.0 was between.1 in
      two.still name between.0 between.1 (omega (arith, same_lock, locked)) there ∙ one.still name live was locked (ap is_some between.1));
}

pub raised_after : (old mid new : List ℕ) (db : Db) (store : Store) → LeavesStore old mid store → LeavesStore mid new (raised (store_of mid) db) → MakesNone mid new → LeavesStore old new (raised store db)
raised_after old mid new db store one two none = left_after old mid new store (raised (store_of mid) db) (raised store db) one two
    (record {
      map = one.same.map;
      databases = ap (λ (stored : List StoredDatabase). with_changed stored db.0 (λ database. record database { header = raised_header database.header })) one.same.databases;
    }) none

-- where nothing changed the store is the same
pub itself : (image : List ℕ) (store : Store) → Accepted image → SameStore (store_of image) store → LeavesStore image image store
itself image store a same = record {
  accepted = a;
  same = same;
  len = refl;
  tables = refl;
  directory = refl;
  locks = λ name before after was now. ap (λ (live : LiveChunk). live.lock) (same_some after before (sym now ∙ was));
  still = λ name live was locked there. refl;
}

-- what is left is the same store
pub left_as : (old new : List ℕ) (left store : Store) → LeavesStore old new left → SameStore left store → LeavesStore old new store
left_as old new left store leaves same = left_after old new new left left store leaves (itself new left leaves.accepted leaves.same) same (λ name some. some)

-- what both move
pub nothing_moved : (old mid new : List ℕ) → MovesNothing old mid → MovesNothing mid new → MakesNone mid new → MovesNothing old new
nothing_moved old mid new one two none = λ name was is. two name (none name is) is ∙ one name was (none name is)

pub one_stretch_moved : (old mid new : List ℕ) (name : ℕ) → MovesOneStretchAnd old mid name → MovesNothing mid new → MakesNone mid new → MovesOneStretchAnd old new name
one_stretch_moved old mid new name one two none = record {
  before = one.before;
  mid = one.mid;
  after = one.after;
  chunks = one.chunks;
  none_stays = one.none_stays;
  others = λ other apart outside was is. two other (none other is) is ∙ one.others other apart outside was (none other is);
}
