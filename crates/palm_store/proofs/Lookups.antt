-- Calls that ask of databases leave the region as it is; here are their refusals and replies.
use Rattle.palm_store.proofs.Words.{◌≡◌, ◌≢◌, ℕ, ◌<◌, ◌≤◌, List, length, map, get_or, Bool, Option, Some, None, Result, refl, sym, ap, ◌∙◌, arith, inl, All-map, get_or_default_zero, slice_get-get_or, ◌↔◌, All, slice_get, IsTrue, IfSome, IfNone, is_some, ok_or, Memory, Database, header_in, database_in, StoredDatabase, bytes_under, listed, database_under, databases, numbers_of, names_of, Accepted, store_of, IsTaken, info_of, reply_of, DoesInStore, Db, DbInfo, Find, Nth, Count, Info, Refusal, NoSuchDatabase, all-times, map-All, listed_numbers, asks, same_store, refused, DbHeader, IsHeaderOf, info_told, HasNumber, HasOtherName, name_under, number_some}
use Rattle.heap_model.specs.declared.call.Call.TheVariants as calls
use Rattle.heap_model.specs.declared.call.Reply.TheVariants as replies
use Rattle.palm_store.proofs.Numbers.{number_listed, has_number_is, in_store, length-databases, database_at, listed_at, number_of_slot}

-- by name
name_read : (image : List ℕ) (slot : ℕ) → (database_under image slot).database.header.name ≡ name_under image slot
unfolding database_in header_in
name_read image slot = refl

-- no database has a name where no header that is listed has it
pub all_other_names : (image name : List ℕ) → ((k : ℕ) → k < length (listed image) → name_under image (get_or (listed image) k 0) ≢ name) → All (λ other. other ≢ name) (names_of (databases image))
unfolding databases
all_other_names image name none =
    let under : All (λ slot. (database_under image slot).database.header.name ≢ name) (listed image) = λ k d below e.
    none k below (ap (name_under image) (sym (get_or_default_zero (listed image) k d below)) ∙ sym (name_read image (get_or (listed image) k d)) ∙ e) in
    All-map (λ other. other ≢ name) (λ (one : StoredDatabase). one.database.header.name) (map (database_under image) (listed image))
    (All-map (λ (one : StoredDatabase). one.database.header.name ≢ name) (database_under image) (listed image) under)

-- a number's name is one of them
pub name_there : (image name : List ℕ) (db : ℕ) → HasNumber image db → name_under image db ≡ name → All (λ other. other ≢ name) (names_of (databases image)) → ⊥
unfolding databases
name_there image name db has e all =
    let under = map-All (λ (one : StoredDatabase). one.database.header.name ≢ name) (database_under image) (listed image)
    (map-All (λ other. other ≢ name) (λ (one : StoredDatabase). one.database.header.name) (map (database_under image) (listed image)) all) in
    all-times (λ slot. (database_under image slot).database.header.name ≢ name) (listed image) under db (number_listed image db has) (name_read image db ∙ e)

pub found : (region : Memory) (name : List ℕ) (db : Db) → Accepted region.bytes → HasNumber region.bytes db.0 → name_under region.bytes db.0 ≡ name → DoesInStore region (calls.Database (Find name)) (replies.Database db) region
unfolding store_of
found region name db a has e =
    asks region (calls.Database (Find name)) (replies.Database db) a
    ((name_there region.bytes name db.0 has e, tt), (in_store region.bytes db (λ (database : Database ℕ). database.header.name ≡ name) has (name_read region.bytes db.0 ∙ e), same_store region))

-- names that are taken
pub taken_at : (image name : List ℕ) (db index : ℕ) → index < length (listed image) → get_or (listed image) index 0 ≢ db → name_under image (get_or (listed image) index 0) ≡ name → IsTaken (store_of image) db name
unfolding store_of
taken_at image name db index below other e = (index, database_under image (get_or (listed image) index 0), omega (arith, length-databases image), database_at image index _ below, (other, name_read image _ ∙ e))

pub not_taken : (image name : List ℕ) (db : ℕ) → ((k : ℕ) → k < length (listed image) → get_or (listed image) k 0 ≢ db → name_under image (get_or (listed image) k 0) ≡ name → ⊥) → IsTaken (store_of image) db name → ⊥
unfolding store_of
not_taken image name db none (index, one, inside, there, (other, named)) =
    let below : index < length (listed image) = omega (arith, length-databases image, inside) in
    let same = sym (database_at image index one below) ∙ there in
    none index below (λ e. other (ap (λ (stored : StoredDatabase). stored.db) (sym same) ∙ e))
    (sym (name_read image (get_or (listed image) index 0)) ∙ ap (λ (stored : StoredDatabase). stored.database.header.name) same ∙ named)

-- a name of another database is taken
pub taken_by : (image name : List ℕ) (db other : ℕ) → HasOtherName image db name other → IsTaken (store_of image) db name
taken_by image name db other has =
    let at = listed_at image other has.number in
    taken_at image name db at.0 at.1.inside (λ e. has.apart (sym at.1.there ∙ e)) (ap (name_under image) at.1.there ∙ has.named)

pub other_taken : (image name : List ℕ) (db : ℕ) (found : Option Db) (is : Bool) → IfSome found (λ other. HasOtherName image db name other.0) → IfNone found (IsTaken (store_of image) db name → ⊥) → is ≡ is_some found → IsTrue is ↔ IsTaken (store_of image) db name
other_taken image name db (Some other) is has none e = (λ yes. taken_by image name db other.0 has, λ taken. e)
other_taken image name db None is has none e = (λ yes. absurd cc, λ taken. absurd (none taken))

-- where no name of a number is this one, no database has it
pub not_found : (region : Memory) (name : List ℕ) → Accepted region.bytes → (IsTaken (store_of region.bytes) 0 name → ⊥) → DoesInStore region (calls.Database (Find name)) (replies.Refused NoSuchDatabase) region
unfolding store_of
not_found region name a free =
    let none = all_other_names region.bytes name (λ k below e.
    free (taken_at region.bytes name 0 k below (λ zero. omega (arith, number_some region.bytes (get_or (listed region.bytes) k 0) a (number_of_slot region.bytes k below))) e)) in
    refused region (calls.Database (Find name)) NoSuchDatabase a (inl (none, refl))

-- what is found by a name, or that nothing is
pub answered : (region : Memory) (name given : List ℕ) (named : Option Db) (result : Result Db Refusal) → Accepted region.bytes → given ≡ name → IfSome named (λ db. HasOtherName region.bytes 0 given db.0) → IfNone named (IsTaken (store_of region.bytes) 0 given → ⊥)
    → result ≡ ok_or named NoSuchDatabase → DoesInStore region (calls.Database (Find name)) (reply_of (λ db. replies.Database db) result) region
answered region name given (Some db) result a same has none e = rw e (found region name db a has.number (has.named ∙ same))
answered region name given None result a same has none e = rw e (not_found region name a (rw same at none))

-- by index
pub at_index : (region : Memory) (index : ℕ) (db : Db) → Accepted region.bytes → index < length (listed region.bytes) → db.0 ≡ get_or (listed region.bytes) index 0 → DoesInStore region (calls.Database (Nth index)) (replies.Database db) region
unfolding store_of
at_index region index db a below is =
    let there : slice_get (numbers_of (databases region.bytes)) index ≡ Some db.0 = rw (← listed_numbers region.bytes, is) (slice_get-get_or (listed region.bytes) index 0 below) in
    asks region (calls.Database (Nth index)) (replies.Database db) a ((λ behind. omega (arith, length-databases region.bytes), tt), (there, same_store region))

pub no_index : (region : Memory) (index : ℕ) → Accepted region.bytes → length (listed region.bytes) ≤ index → DoesInStore region (calls.Database (Nth index)) (replies.Refused NoSuchDatabase) region
unfolding store_of
no_index region index a behind = refused region (calls.Database (Nth index)) NoSuchDatabase a (inl (omega (arith, length-databases region.bytes), refl))

pub counted : (region : Memory) (count : ℕ) → Accepted region.bytes → count ≡ length (listed region.bytes) → DoesInStore region (calls.Database Count) (replies.Number count) region
unfolding store_of
counted region count a is = asks region (calls.Database Count) (replies.Number count) a (tt, (omega (arith, length-databases region.bytes), same_store region))

pub info_read : (database : Database ℕ) (header : DbHeader) → IsHeaderOf database header → info_told header ≡ info_of database
info_read database header has = rw (← has.values, ← has.entry_count) refl

pub told : (region : Memory) (db : Db) (info : DbInfo) → Accepted region.bytes → HasNumber region.bytes db.0 → info ≡ info_of (database_in (bytes_under region.bytes db.0)) → DoesInStore region (calls.Database (Info db)) (replies.Info info) region
told region db info a has is =
    asks region (calls.Database (Info db)) (replies.Info info) a
    ((λ none. (let apart = sym (has_number_is region.bytes db.0 has) ∙ none in absurd cc), tt), (in_store region.bytes db (λ (database : Database ℕ). info ≡ info_of database) has is, same_store region))
