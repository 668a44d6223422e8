-- Entries searched for in the order of their indexes, and those of a database that is read.
use Rattle.palm_store.proofs.Words.{◌≡◌, ℕ, ◌+◌, ◌<◌, ◌≤◌, Bool, true, false, List, length, Option, Some, None, sym, ap, subst, ◌∙◌, arith, rules, take_all, count_by_more_yes, count_by_more_no, slice_get_within, get_or_from_slice_get, ◌↔◌, IsSome, IsTrue, IfSome, IfNone, slice_get, count_by, is_some, Entry, Database, has_resources, StoredDatabase, store_of, entries_of, entries_in, OfEntry, holds_resources, resources_under, Db, HasNumber, HasDatabase}
use Rattle.std.specs.Prelude.{take}
use Rattle.palm_store.specs.Search.{NoneBehind, SomeHas}

-- none that was passed is such
abbrev pub NoneUntil : List (Entry ℕ) → ℕ → ℕ → (Entry ℕ → Type 0) → Type 0
NoneUntil entries from end P = (at : ℕ) → from ≤ at → at < end → OfEntry (slice_get entries at) P → ⊥

-- whether one was found says whether there is one
pub found_or_none : (entries : List (Entry ℕ)) (P : Entry ℕ → Type 0) (found : Option ℕ) (result : Bool) → result ≡ is_some found → IfSome found (λ index. OfEntry (slice_get entries index) P) → IfNone found (NoneBehind entries 0 P) → IsTrue result ↔ SomeHas entries P
found_or_none entries P None result e is none = (λ there. (let nothing : result ≡ false = e in absurd cc), λ some. absurd (none some.0 (omega arith) some.1))
found_or_none entries P (Some index) result e is none = (λ there. (index, is), λ some. e)

-- a database that is read
pub entries_read : (image : List ℕ) (db : Db) (database : Database ℕ) → HasDatabase image db.0 database → entries_in (store_of image) db ≡ database.entries
entries_read image db database is = ap entries_of is

pub number_read : (image : List ℕ) (db : Db) (database : Database ℕ) → HasDatabase image db.0 database → HasNumber image db.0
number_read image db database is = subst (λ (x : Option StoredDatabase). IsSome x) (sym is) (search rules)

pub kind_read : (image : List ℕ) (db : Db) (database : Database ℕ) → HasDatabase image db.0 database → resources_under (store_of image) db ≡ has_resources database.header.attributes
kind_read image db database is = ap holds_resources is

-- entries counted
pub counted_more : (test : Entry ℕ → Bool) (entries : List (Entry ℕ)) (index : ℕ) (entry : Entry ℕ) → slice_get entries index ≡ Some entry → test entry ≡ true → count_by test (take (index + 1) entries) ≡ count_by test (take index entries) + 1
counted_more test entries index entry at is =
    count_by_more_yes test entries index entry (slice_get_within entries index entry at) (ap test (get_or_from_slice_get entries index entry entry at) ∙ is)

pub counted_same : (test : Entry ℕ → Bool) (entries : List (Entry ℕ)) (index : ℕ) (entry : Entry ℕ) → slice_get entries index ≡ Some entry → test entry ≡ false → count_by test (take (index + 1) entries) ≡ count_by test (take index entries)
counted_same test entries index entry at is =
    count_by_more_no test entries index entry (slice_get_within entries index entry at) (ap test (get_or_from_slice_get entries index entry entry at) ∙ is)

pub counted_all : (test : Entry ℕ → Bool) (entries : List (Entry ℕ)) → count_by test (take (length entries) entries) ≡ count_by test entries
counted_all test entries = ap (count_by test) (take_all (length entries) entries (omega arith))
