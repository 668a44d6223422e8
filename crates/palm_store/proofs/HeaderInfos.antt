-- A header that is set: its bytes are written over the old ones, and nothing else changes.
use Rattle.palm_store.proofs.Words.{◌≡◌, ℕ, List, refl, ap, subst, ◌∙◌, inl, overwritten, Memory, KeepsLoan, held, put, Leaves, database_here, DatabaseHeader, Database, has_resources, IsDatabaseName, IsSpelled, database_in, bytes_under, Accepted, store_of, with_changed, IsTaken, header_set, DoesInStore, Db, DbInfo, SetInfo, HasStore, accepted_sound, put_respells, rename_steps, DbHeader, header_values, IsHeaderOf, with_header, WritesHeader, HasNumber}
use Rattle.heap_model.specs.declared.call.Call.TheVariants as calls
use Rattle.heap_model.specs.declared.call.Reply.TheVariants as replies
use Rattle.palm_store.proofs.BlockCalls.{known_number}
use Rattle.palm_store.proofs.EntryChanges.{sound_like}
use Rattle.palm_store.specs.HeaderInfos.{KeepsEntries}

-- a database with what is given set in its header
abbrev pub with_info : DbInfo → Database ℕ → Database ℕ
with_info info database = record database { header = header_set info database.header }

-- what a call has found and done that sets the header of a database
pub record Sets (old new : List ℕ) (db : ℕ) (info : DbInfo) : Type 0 where
  pub number : HasNumber old db
  pub name : IsDatabaseName info.name
  pub free : IsTaken (store_of old) db info.name → ⊥
  pub bytes : List ℕ
  pub spelled : IsSpelled (with_info info (database_in (bytes_under old db))) (overwritten (bytes_under old db) 0 bytes)
  pub leaves : Leaves old new (put (held old) db 0 bytes)

pub set_spelled : (body bytes : List ℕ) (info : DbInfo) (header after : DbHeader) → IsSpelled (database_in body) body → IsHeaderOf (database_in body) header → header_values after ≡ header_set info (header_values header) → KeepsEntries header after → WritesHeader after bytes
    → IsSpelled (with_info info (database_in body)) (overwritten body 0 bytes)
set_spelled body bytes info header after spelled has values keeps writes =
    let database : Database ℕ = database_in body in
    let head : header_values after ≡ header_set info database.header = values ∙ ap (header_set info) has.values in
    let kind : has_resources after.attributes ≡ has_resources database.header.attributes = keeps.kind ∙ ap (λ (h : DatabaseHeader). has_resources h.attributes) has.values in
    let is : with_header database after ≡ with_info info database = rw (head, keeps.app_info ∙ has.app_info, keeps.sort_info ∙ has.sort_info) in
    subst (λ (d : Database ℕ). IsSpelled d (overwritten body 0 bytes)) is (writes database body spelled (keeps.entry_count ∙ has.entry_count) kind)

has_set : (old new : List ℕ) (db : ℕ) (info : DbInfo) → Accepted old → Sets old new db info → HasStore new (record (store_of old) { databases = with_changed (store_of old).databases db (with_info info) })
has_set old new db info a s =
    let d : Database ℕ = with_info info (database_here old db) in
    let sound = sound_like (database_here old db) d (accepted_sound old db a s.number) s.spelled.fits refl in
    rename_steps old new db (with_info info) a s.number (put_respells old new db s.bytes d s.leaves s.spelled.bytes_are) sound s.free (λ q some. refl)

pub set_step : (old new : Memory) (db : Db) (info : DbInfo) → Accepted old.bytes → Sets old.bytes new.bytes db.0 info → KeepsLoan old new → new ≡ record old { bytes = new.bytes } → DoesInStore old (calls.Database (SetInfo db info)) replies.Done new
set_step old new db info a s loan rest =
    let has = has_set old.bytes new.bytes db.0 info a s in
    record {
      before = a;
      step = ((known_number old.bytes db s.number, (λ no_name. no_name s.name, (s.free, tt))), (tt, has.same));
      accepted = has.accepted;
      len = s.leaves.frame.len;
      tables = s.leaves.frame.tables;
      directory = inl s.leaves.frame.directory;
      still = s.leaves.still;
      loan = loan;
      asks = tt;
      rest = rest;
    }
