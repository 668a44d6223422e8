-- The modification number raised, and the database that a chunk spells after a call.
use Rattle.database_edits.proofs.Words.{◌≡◌, ℕ, Bool, true, false, List, refl, sym, subst, Entry, Database, spelled, DatabaseFits, IsSpelled, SpellsHere, Respells, database_here, bytes_under, next_modification, database_read, with_entry, HasModificationNumber, Rebodies, PutsHeader, counted, counted_if, entry_written}
use Rattle.database_edits.proofs.Chunks.{rebodied, through}
use Rattle.database_edits.proofs.Databases.{managers, counted_fits}
use Rattle.database_edits.proofs.HeadersHere.{header_spelled, headed, then_raised, respelled_header}

pub database_now : {old new : List ℕ} {db : ℕ} {d : Database ℕ} → DatabaseFits d
    → Rebodies old new db (spelled d) → database_here new db ≡ d
database_now {d = d} fits r = database_read d _ (record { fits = fits; bytes_are = r.body })

pub spells_now : {old new : List ℕ} {db : ℕ} {d : Database ℕ} → DatabaseFits d
    → Rebodies old new db (spelled d) → SpellsHere new db
spells_now {new = new} {db} fits r = record {
  heap = r.managers.heap;
  owner = r.managers.owner;
  spelled = subst (λ (d : Database ℕ). IsSpelled d (bytes_under new db)) (sym (database_now fits r))
      (record { fits = fits; bytes_are = r.body });
}

-- a database whose number was raised
pub raised : {old new : List ℕ} {db was : ℕ} → SpellsHere old db
    → was ≡ (database_here old db).header.modification_number
    → PutsHeader old new db (HasModificationNumber (next_modification was))
    → Rebodies old new db (spelled (counted (database_here old db)))
raised {old} {db = db} s is puts = respelled_header s
    (then_raised (headed _ (managers old db s) (header_spelled s)) is puts)
    (counted_fits _ s.spelled.fits) refl

-- one database is spelled, and then another
pub respells_twice : {old mid new : List ℕ} {db : ℕ} (first second : Database ℕ)
    → SpellsHere old db → Respells old mid db first → Respells mid new db second
    → Respells old new db second
respells_twice first second s a b =
    let one = rebodied (λ was. spelled first) (managers _ _ s) a in
    (through (managers _ _ s) one (rebodied (λ was. spelled second) one.managers b)).leaves

-- ---- the number raised, if that is asked, and then an entry written

pub counted_same : (counts : Bool) (index : ℕ) (entry : Entry ℕ) (d : Database ℕ)
    → ((counted_if counts d).entries ≡ d.entries)
    × ((counted_if counts d).header.attributes ≡ d.header.attributes)
    × (with_entry (counted_if counts d) index entry ≡ entry_written counts index entry d)
counted_same true index entry d = (refl, refl, refl)
counted_same false index entry d = (refl, refl, refl)
