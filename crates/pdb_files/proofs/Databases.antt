-- The database that is exported, and the steps of the call.
use Rattle.pdb_files.proofs.Words.{◌≡◌, ℕ, ◌^◌, ◌<◌, Option, Some, None, List, get_or, refl, sym, ap, subst, ◌∙◌, arith, inl, inr, IsSome, All, Any, cases_eq, get_or_default_zero, Contains, get_or_from_slice_get, slice_get_within, Memory, IsLent, Database, data_in, database_in, IsSpelled, HasShape, database_here, StoredDatabase, databases, Accepted, content, store_of, OfDatabase, with_number, In, file_of, DoesInStore, Db, Export, NoSuchDatabase, OutOfMemory, Lent, found_stands, number_here, times-all, same_store, asks, refused, file_size, IsDataName, named_owner, any_at, content_of, IsExportable}
use Rattle.heap_model.specs.declared.call.Call.TheVariants as calls
use Rattle.heap_model.specs.declared.call.Reply.TheVariants as replies
use Rattle.pdb_format.proofs.WrittenStores.{content_short}
use Rattle.palm_store.specs.Databases.{HasNumber, HasDatabase, named_under}

-- ---- the database of a number

database_or : Database ℕ → Option StoredDatabase → Database ℕ
database_or d None = d
database_or d (Some one) = one.database

-- a number has one database
pub same_database : (image : List ℕ) (db : ℕ) (d e : Database ℕ) → HasDatabase image db d
    → HasDatabase image db e → d ≡ e
unfolding database_or
same_database image db d e has other = ap (database_or d) (sym has ∙ other)

-- and there is one
pub not_none : (image : List ℕ) (db : ℕ) (d : Database ℕ) → HasDatabase image db d
    → with_number (store_of image) db ≡ None → ⊥
not_none image db d has none = let apart = sym has ∙ none in absurd cc

is_among : (image : List ℕ) (db : ℕ) (d : Database ℕ) → HasDatabase image db d
    → Contains (databases image) (record { db = db; database = d })
unfolding store_of
is_among image db d has =
    let one : StoredDatabase = record { db = db; database = d } in
    let stands = found_stands db (databases image) one has in (
      stands.1.0,
      slice_get_within (databases image) stands.1.0 one stands.1.1,
      get_or_from_slice_get (databases image) stands.1.0 one one stands.1.1,
    )

short_here : (image : List ℕ) (db : ℕ) (d : Database ℕ) → Accepted image → HasDatabase image db d
    → file_size (content (store_of image).map d) < 2 ^ 32
unfolding store_of
short_here image db d a has =
    (content_short image (record { db = db; database = d }) a (is_among image db d has)).1

-- what it names is for data
names_here : (image bytes : List ℕ) (db : ℕ) → Accepted image
    → HasDatabase image db (database_in bytes)
    → All (IsDataName image) (data_in (database_in bytes))
names_here image bytes db a is =
    let has : HasNumber image db = subst (λ (x : Option StoredDatabase). IsSome x) (sym is) refl in
    let same = same_database image db (database_here image db) (database_in bytes)
    (number_here image db has) is in
    subst (λ (d : Database ℕ). All (IsDataName image) (data_in d)) same (
    times-all (IsDataName image) (named_under image db) (λ name there. elim (cases_eq name 0) [
      | inl none ↦ inl none
      | inr some ↦ inr (named_owner image db name a has (omega arith) there)
    ])
    )

-- it can be exported, if no block of it is lent
pub exportable : (memory : Memory) (bytes : List ℕ) (db : ℕ) → Accepted memory.bytes
    → HasDatabase memory.bytes db (database_in bytes) → IsSpelled (database_in bytes) bytes
    → HasShape bytes → (Any (IsLent memory) (data_in (database_in bytes)) → ⊥)
    → IsExportable memory bytes
exportable memory bytes db a has spelled shape unlent = record {
  shape = shape;
  spelled = spelled;
  names = λ index default below. (
      let names : List ℕ = data_in (database_in bytes) in
      record {
        named = names_here memory.bytes bytes db a has index default below;
        here = λ lent. unlent (any_at (IsLent memory) names index (get_or names index default) below
            (get_or_default_zero names index default below) lent);
      });
  short = short_here memory.bytes db (database_in bytes) a has;
}

pub numbered : (image : List ℕ) (db : ℕ) (d : Database ℕ) → HasDatabase image db d
    → HasNumber image db
numbered image db d has = subst (λ (x : Option StoredDatabase). IsSome x) (sym has) refl

-- whether a block of it is lent, by its number
pub lent_here : (memory : Memory) (bytes : List ℕ) (db : ℕ)
    → HasDatabase memory.bytes db (database_in bytes)
    → Any (IsLent memory) (named_under memory.bytes db)
    → Any (IsLent memory) (data_in (database_in bytes))
lent_here memory bytes db is lent =
    let has = numbered memory.bytes db (database_in bytes) is in
    subst (λ (d : Database ℕ). Any (IsLent memory) (data_in d)) (same_database memory.bytes db
    (database_here memory.bytes db) (database_in bytes) (number_here memory.bytes db has) is) lent

pub lent_number : (memory : Memory) (bytes : List ℕ) (db : ℕ)
    → HasDatabase memory.bytes db (database_in bytes)
    → Any (IsLent memory) (data_in (database_in bytes))
    → Any (IsLent memory) (named_under memory.bytes db)
lent_number memory bytes db is lent =
    let has = numbered memory.bytes db (database_in bytes) is in
    subst (λ (d : Database ℕ). Any (IsLent memory) (data_in d)) (sym (same_database memory.bytes db
    (database_here memory.bytes db) (database_in bytes) (number_here memory.bytes db has) is)) lent

-- a block is lent of the database that has the number
pub in_this : (memory : Memory) (db : Db) (d : Database ℕ) → HasDatabase memory.bytes db.0 d
    → Any (IsLent memory) (data_in d)
    → In (store_of memory.bytes) db (λ database. Any (IsLent memory) (data_in database))
in_this memory db d has lent = subst (λ (o : Option StoredDatabase). OfDatabase o
    (λ database. Any (IsLent memory) (data_in database))) (sym has) lent

pub of_this : (memory : Memory) (db : Db) (d : Database ℕ) → HasDatabase memory.bytes db.0 d
    → In (store_of memory.bytes) db (λ database. Any (IsLent memory) (data_in database))
    → Any (IsLent memory) (data_in d)
of_this memory db d has lent = subst (λ (o : Option StoredDatabase). OfDatabase o
    (λ database. Any (IsLent memory) (data_in database))) has lent

pub none_in : (memory : Memory) (db : Db) → with_number (store_of memory.bytes) db.0 ≡ None
    → In (store_of memory.bytes) db (λ database. Any (IsLent memory) (data_in database)) → ⊥
none_in memory db none lent = subst (λ (o : Option StoredDatabase). OfDatabase o
    (λ database. Any (IsLent memory) (data_in database))) none lent

-- ---- the steps

pub no_number : (region : Memory) (db : Db) → Accepted region.bytes
    → with_number (store_of region.bytes) db.0 ≡ None
    → DoesInStore region (calls.File (Export db)) (replies.Refused NoSuchDatabase) region
no_number region db a none =
    refused region (calls.File (Export db)) NoSuchDatabase a (inl (none, refl))

pub lent_out : (region : Memory) (db : Db) (d : Database ℕ) → Accepted region.bytes
    → HasDatabase region.bytes db.0 d → Any (IsLent region) (data_in d)
    → DoesInStore region (calls.File (Export db)) (replies.Refused Lent) region
lent_out region db d a has lent = refused region (calls.File (Export db)) Lent a
    (inr (not_none region.bytes db.0 d has, inl (in_this region db d has lent, refl)))

pub no_room : (region : Memory) (db : Db) (d : Database ℕ) → Accepted region.bytes
    → HasDatabase region.bytes db.0 d → (Any (IsLent region) (data_in d) → ⊥)
    → DoesInStore region (calls.File (Export db)) (replies.Refused OutOfMemory) region
no_room region db d a has unlent = refused region (calls.File (Export db)) OutOfMemory a (inr (
  not_none region.bytes db.0 d has,
  inr ((λ lent. unlent (of_this region db d has lent)), inl (tt, refl)),
))

pub written : (region : Memory) (db : Db) (bytes file : List ℕ) → Accepted region.bytes
    → HasDatabase region.bytes db.0 (database_in bytes)
    → (Any (IsLent region) (data_in (database_in bytes)) → ⊥)
    → file ≡ file_of (content_of region.bytes bytes)
    → DoesInStore region (calls.File (Export db)) (replies.Data file) region
written region db bytes file a has unlent is =
    let P : Database ℕ → Type 0 =
    λ database. file ≡ file_of (content (store_of region.bytes).map database) in
    let here : In (store_of region.bytes) db P =
    subst (λ (o : Option StoredDatabase). OfDatabase o P) (sym has) is in
    asks region (calls.File (Export db)) (replies.Data file) a (
      (
        not_none region.bytes db.0 (database_in bytes) has,
        ((λ lent. unlent (of_this region db (database_in bytes) has lent)), (tt, tt)),
      ),
      (here, same_store region),
    )
