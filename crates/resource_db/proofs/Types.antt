-- Resources of a type, counted in the order of their indexes.
use Rattle.resource_db.proofs.Words.{◌≡◌, ℕ, ◌+◌, ◌<◌, ◌≤◌, true, List, [], cond, Option, Some, None, refl, arith, inl, inr, IfSome, IfNone, slice_get, count_by, Memory, Database, Entry, Accepted, store_of, NoneHolds, entries_in, OfEntry, has_type, DoesInStore, Db, FindType, Number, ResourceNotFound, same_store, asks, refused, number_or_refused, opening_checks, entries_read, counted_more}
use Rattle.std.proofs.lemmas.List.Sums.{sum_by-take-le}
use Rattle.std.specs.Option.{ok_or}
use Rattle.heap_model.specs.declared.call.Call.TheVariants as calls
use Rattle.palm_store.specs.Databases.{HasDatabase}
use Rattle.palm_store.specs.declared.opening.Access.TheVariants.{Read}
use Rattle.palm_store.specs.declared.opening.EntryKind.TheVariants.{Resources}
use Rattle.resource_db.specs.Resources.{IsNth}

-- if one is found, more resources have the type than those before it
more_than : (entries : List (Entry ℕ)) (kind nth index : ℕ) → IsNth entries kind nth index → nth < count_by (has_type kind) entries
more_than entries kind nth index is = by (slice_get entries index) refl is.0 where
  by : (x : Option (Entry ℕ)) → slice_get entries index ≡ x → OfEntry x (λ entry. has_type kind entry ≡ true) → nth < count_by (has_type kind) entries
  by None e p = absurd p
  by (Some entry) e p = omega (arith, counted_more (has_type kind) entries index entry e p, sum_by-take-le (λ entry. cond (has_type kind entry) 1 0) entries (index + 1), is.1)

-- the result of a search by a type, found or not, is the reply of the call
pub found_type : (region : Memory) (db : Db) (kind nth : ℕ) (database : Database ℕ) (found : Option ℕ) → Accepted region.bytes → HasDatabase region.bytes db.0 database → NoneHolds (opening_checks region.bytes db Resources Read []) → IfSome found (IsNth database.entries kind nth) → IfNone found (count_by (has_type kind) database.entries ≤ nth)
    → DoesInStore region (calls.Resource (FindType db kind nth)) (number_or_refused (ok_or found ResourceNotFound)) region
found_type region db kind nth database (Some index) a is none there nothing =
    let one : IsNth (entries_in (store_of region.bytes) db) kind nth index = rw (entries_read region.bytes db database is) there in
    asks region _ (Number index) a ((none.0, (none.1.0, ((λ few. omega (arith, more_than (entries_in (store_of region.bytes) db) kind nth index one, few)), tt))), (one, same_store region))
found_type region db kind nth database None a is none there nothing =
    refused region _ ResourceNotFound a (inr (none.0, inr (none.1.0, inl (rw (entries_read region.bytes db database is) nothing, refl))))
