-- The databases of a store by their numbers, names and indexes, as the calls on it answer.
use Rattle.std.proofs.Common.{[], ◌≡◌, ◌≢◌, ℕ, ◌<◌, List, map, length, Option, Some, None, refl, sym, ap, ◌∙◌, arith, inl, inr}
use Rattle.std.specs.Prelude.{IsSome, All, slice_get, option_map}
use Rattle.std.proofs.lemmas.Option.{slice_get-map, slice_get_within, get_or_from_slice_get}
use Rattle.std.specs.List.{Any}
use Rattle.heap_model.specs.Memory.{Memory}
use Rattle.heap_model.specs.Lending.{IsLent}
use Rattle.heap_model.specs.Database.{Database, data_in}
use Rattle.heap_model.specs.DatabaseSteps.{info_of}
use Rattle.heap_model.specs.Files.{file_of}
use Rattle.heap_model.specs.Leaving.{database_here}
use Rattle.heap_model.specs.Store.{StoredDatabase, database_under, databases, listed, numbers_of, names_of, content, store_of}
use Rattle.heap_model.specs.StoreWords.{OfDatabase, with_number}
use Rattle.heap_model.specs.StoreSteps.{DoesInStore}
use Rattle.heap_model.specs.declared.names.Db.{Db}
use Rattle.heap_model.specs.declared.database.DbInfo.{DbInfo}
use Rattle.heap_model.specs.declared.call.DatabaseCall.TheVariants.{Find, Nth, Count, Info}
use Rattle.heap_model.specs.declared.call.FileCall.TheVariants.{Export}
use Rattle.heap_model.specs.declared.call.Call.TheVariants as calls
use Rattle.heap_model.specs.declared.call.Reply.TheVariants as replies
use Rattle.heap_model.specs.declared.refusal.Refusal.{Refusal}
use Rattle.heap_model.specs.declared.refusal.Refusal.TheVariants.{OutOfMemory}
use Rattle.laws_store.proofs.Numbered.{listed_number, number_here, in_here}
use Rattle.laws_store.proofs.Times.{times-some}
use Rattle.palm_store.specs.Databases.{HasNumber}
use Rattle.palm_store.proofs.Loans.{none_lent}

-- how many there are
pub counted : (m : Memory) (count : ℕ) → DoesInStore m (calls.Database Count) (replies.Number count) m → count ≡ length (store_of m.bytes).databases
counted m count does = does.step.1.0

-- ---- by an index

db_or : ℕ → Option StoredDatabase → ℕ
db_or other None = other
db_or other (Some one) = one.db

is_here : (image : List ℕ) (found : Option ℕ) (db : ℕ) → option_map (λ (one : StoredDatabase). one.db) (option_map (database_under image) found) ≡ Some db → found ≡ Some db
is_here image None db is = absurd cc
is_here image (Some slot) db is = is

-- the slot that the directory has at the index
slot_at : (image : List ℕ) (index db : ℕ) → slice_get (numbers_of (store_of image).databases) index ≡ Some db → slice_get (listed image) index ≡ Some db
unfolding store_of databases
slot_at image index db is =
    is_here image (slice_get (listed image) index) db (
    ap (option_map (λ (one : StoredDatabase). one.db)) (sym (slice_get-map (database_under image) (listed image) index))
    ∙ sym (slice_get-map (λ (one : StoredDatabase). one.db) (map (database_under image) (listed image)) index)
    ∙ is)

database_at : (image : List ℕ) (index db : ℕ) → slice_get (listed image) index ≡ Some db → slice_get (store_of image).databases index ≡ Some (database_under image db)
unfolding store_of databases
database_at image index db at = slice_get-map (database_under image) (listed image) index ∙ ap (option_map (database_under image)) at

pub nth_there : (m : Memory) (index : ℕ) (db : Db) → DoesInStore m (calls.Database (Nth index)) (replies.Database db) m → HasNumber m.bytes db.0
nth_there m index db does =
    let at = slot_at m.bytes index db.0 does.step.1.0 in
    listed_number m.bytes db.0 (times-some db.0 (listed m.bytes) index 0 (slice_get_within (listed m.bytes) index db.0 at) (get_or_from_slice_get (listed m.bytes) index db.0 0 at))

pub found_nth : (m : Memory) (index : ℕ) (db : Db) → DoesInStore m (calls.Database (Nth index)) (replies.Database db) m → slice_get (store_of m.bytes).databases index ≡ Some (database_under m.bytes db.0)
found_nth m index db does = database_at m.bytes index db.0 (slot_at m.bytes index db.0 does.step.1.0)

pub no_nth : (m : Memory) (index : ℕ) (refusal : Refusal) → DoesInStore m (calls.Database (Nth index)) (replies.Refused refusal) m → index < length (store_of m.bytes).databases → ⊥
no_nth m index refusal does inside = elim does.step.0 [
  | inl past ↦ let long = past.0 in omega arith
  | inr other ↦ other.1
]

-- ---- by a number

not_none : (image : List ℕ) (db : ℕ) → HasNumber image db → with_number (store_of image) db ≡ None → ⊥
not_none image db has none = let apart = sym (number_here image db has) ∙ none in absurd cc

pub info_is : (m : Memory) (db : Db) (info : DbInfo) → HasNumber m.bytes db.0 → DoesInStore m (calls.Database (Info db)) (replies.Info info) m → info ≡ info_of (database_here m.bytes db.0)
info_is m db info has does = in_here m.bytes db (λ database. info ≡ info_of database) has does.step.1.0

pub no_info : (m : Memory) (db : Db) (refusal : Refusal) → HasNumber m.bytes db.0 → DoesInStore m (calls.Database (Info db)) (replies.Refused refusal) m → ⊥
no_info m db refusal has does = elim does.step.0 [
  | inl none ↦ not_none m.bytes db.0 has none.0
  | inr other ↦ other.1
]

pub file_is : (m : Memory) (db : Db) (file : List ℕ) → HasNumber m.bytes db.0 → DoesInStore m (calls.File (Export db)) (replies.Data file) m → file ≡ file_of (content (store_of m.bytes).map (database_here m.bytes db.0))
file_is m db file has does = in_here m.bytes db (λ database. file ≡ file_of (content (store_of m.bytes).map database)) has does.step.1.0

none_of : (m : Memory) (names : List ℕ) → m.lents ≡ [] → Any (IsLent m) names → ⊥
none_of m names whole lent = none_lent m lent.1 whole lent.4

-- only out of memory refuses it
pub no_file : (m : Memory) (db : Db) (refusal : Refusal) → m.lents ≡ [] → HasNumber m.bytes db.0 → DoesInStore m (calls.File (Export db)) (replies.Refused refusal) m → refusal ≡ OutOfMemory
no_file m db refusal whole has does = elim does.step.0 [
  | inl none ↦ absurd (not_none m.bytes db.0 has none.0)
  | inr (some, inl lent) ↦ absurd (none_of m (data_in (database_here m.bytes db.0)) whole (in_here m.bytes db (λ database. Any (IsLent m) (data_in database)) has lent.0))
  | inr (some, inr (here, inl memory)) ↦ memory.1
  | inr (some, inr (here, inr other)) ↦ absurd other.1
]

-- ---- by a name

some_of : (o : Option StoredDatabase) (P : Database ℕ → Type 0) → OfDatabase o P → IsSome o
some_of None P none = absurd none
some_of (Some one) P some = refl

pub name_there : (m : Memory) (name : List ℕ) (db : Db) → DoesInStore m (calls.Database (Find name)) (replies.Database db) m → HasNumber m.bytes db.0
name_there m name db does = some_of (with_number (store_of m.bytes) db.0) (λ database. database.header.name ≡ name) does.step.1.0

pub name_is : (m : Memory) (name : List ℕ) (db : Db) → DoesInStore m (calls.Database (Find name)) (replies.Database db) m → (database_here m.bytes db.0).header.name ≡ name
name_is m name db does = in_here m.bytes db (λ database. database.header.name ≡ name) (name_there m name db does) does.step.1.0

pub name_missing : (m : Memory) (name : List ℕ) (refusal : Refusal) → DoesInStore m (calls.Database (Find name)) (replies.Refused refusal) m → All (λ other. other ≢ name) (names_of (store_of m.bytes).databases)
name_missing m name refusal does = elim does.step.0 [
  | inl none ↦ none.0
  | inr other ↦ absurd other.1
]
