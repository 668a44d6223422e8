-- The header of a database in the bytes under a slot: kept, and written field by field.
use Rattle.database_edits.proofs.Words.{◌≡◌, ℕ, ◌+◌, ◌≤◌, List, [], ◌++◌, length, take, drop, refl, sym, ap, ◌∙◌, append_assoc, arith, length-take, take-append-le, take-append-drop, take-take, take_at, overwritten, sized_to, Database, DatabaseFits, IsDatabaseName, header_bytes, spelled, SpellsHere, Leaves, database_here, put, held, bytes_under, next_modification, length-header_bytes, spelled_header, StandsAs, WritesField, HasModificationNumber, over_piece, header_over, IsManagers, Rebodies, HasHeaderOf, PutsHeader, counted}
use Rattle.database_edits.specs.Opened.{IsOpenHere, HasHeaderRoom}
use Rattle.database_edits.specs.declared.opened.OpenDatabase.{OpenDatabase}
use Rattle.database_edits.proofs.Chunks.{length_kept, rebodied_as, stays, then_by, written}
use Rattle.database_edits.proofs.Databases.{header_inside, managers}

-- an open database has room for a header
pub room_here : {image : List ℕ} {opened : OpenDatabase} → IsOpenHere image opened
    → HasHeaderRoom image opened
room_here is = record {
  stands = is.stands;
  managers = managers _ _ is.spells;
  inside = header_inside _ _ is.spells;
}

-- ---- the header that is there

-- the first bytes are those of the header
begins : {image : List ℕ} {db : ℕ} (d : Database ℕ) → IsDatabaseName d.header.name
    → take 78 (bytes_under image db) ≡ header_bytes d → HasHeaderOf image db d
begins {image} {db} d name front =
    let len = ap length front ∙ length-header_bytes d name in
    let all = length-take 78 (bytes_under image db) in
    record { name = name; inside = omega (arith, len, all); front = front }

pub header_spelled : {image : List ℕ} {db : ℕ} → SpellsHere image db
    → HasHeaderOf image db (database_here image db)
unfolding spelled
header_spelled {image} {db} s =
    let d : Database ℕ = database_here image db in
    let len = length-header_bytes d s.spelled.fits.name in
    begins d s.spelled.fits.name (ap (take 78) s.spelled.bytes_are ∙ take_at (header_bytes d) _ 78 len)

-- bytes written after it keep it
pub kept_below : {old new : List ℕ} {db : ℕ} {d : Database ℕ} (at : ℕ) (part : List ℕ)
    → HasHeaderOf old db d → 78 ≤ at
    → Rebodies old new db (overwritten (bytes_under old db) at part) → HasHeaderOf new db d
unfolding overwritten
kept_below {old} {db = db} {d} at part has behind r =
    let body : List ℕ = bytes_under old db in
    let inside = has.inside in
    let first = length-take at body in
    begins d has.name
    (ap (take 78) (r.body ∙ append_assoc (take at body) part (drop (at + length part) body))
    ∙ take-append-le 78 (take at body) _ (omega (arith, first, inside))
    ∙ take-take 78 at body behind ∙ has.front)

-- so does another length, if it stays inside
pub kept_sized : {old new : List ℕ} {db : ℕ} {d : Database ℕ} (size : ℕ) → HasHeaderOf old db d
    → 78 ≤ size → Rebodies old new db (sized_to (bytes_under old db) size) → HasHeaderOf new db d
kept_sized {old} {db = db} {d} size has inside r =
    let body : List ℕ = bytes_under old db in
    let was = has.inside in
    let first = length-take size body in
    begins d has.name
    (ap (take 78) r.body ∙ take-append-le 78 (take size body) _ (omega (arith, first, was))
    ∙ take-take 78 size body inside ∙ has.front)

-- ---- a field written

pub field_put : {old new : List ℕ} {db : ℕ} (at : ℕ) (bytes : List ℕ)
    (Differs : Database ℕ → Database ℕ → Type 0) → IsManagers old db → at + length bytes ≤ 78
    → WritesField at bytes Differs → Leaves old new (put (held old) db at bytes)
    → PutsHeader old new db Differs
field_put at bytes Differs m inside writes leaves was now has differs =
    rebodied_as (header_over _ bytes at was now has.front has.name inside
    (writes was now has.name differs)) (written at bytes m leaves)

-- the chunk is as before, and as long
pub header_kept : {old new : List ℕ} {opened : OpenDatabase} (at : ℕ) (bytes : List ℕ)
    → HasHeaderRoom old opened → at + length bytes ≤ 78 → StandsAs new opened.db.0 opened.chunk
    → Leaves old new (put (held old) opened.db.0 at bytes) → HasHeaderRoom new opened
header_kept at bytes room within stands leaves =
    let inside = room.inside in
    let r = written at bytes room.managers leaves in
    let same = length_kept at bytes r (omega (arith, inside, within)) in
    record { stands = stands; managers = r.managers; inside = omega (arith, same, inside) }

-- ---- headers written one over the other

pub record Headed (old new : List ℕ) (db : ℕ) (now : Database ℕ) : Type 0 where
  pub managers : IsManagers old db
  pub has : HasHeaderOf new db now
  pub puts : Rebodies old new db (overwritten (bytes_under old db) 0 (header_bytes now))
  pub len : length (bytes_under new db) ≡ length (bytes_under old db)

-- none is written yet
pub headed : {image : List ℕ} {db : ℕ} (d : Database ℕ) → IsManagers image db
    → HasHeaderOf image db d → Headed image image db d
unfolding overwritten
headed {image} {db} d m has =
    let body : List ℕ = bytes_under image db in
    let name = length-header_bytes d has.name in
    let len : 78 ≡ 0 + length (header_bytes d) = omega arith in
    let same = sym (take-append-drop 78 body) ∙ ap (λ (xs : List ℕ). xs ++ drop 78 body) has.front
    ∙ ap (λ (n : ℕ). header_bytes d ++ drop n body) len in
    record { managers = m; has = has; puts = stays m same; len = refl }

pub then_headed : {old mid new : List ℕ} {db : ℕ} {was : Database ℕ} (now : Database ℕ)
    → Headed old mid db was → IsDatabaseName now.header.name
    → Rebodies mid new db (overwritten (bytes_under mid db) 0 (header_bytes now))
    → Headed old new db now
unfolding overwritten
then_headed {old} {db = db} {was} now h name r =
    let len = length-header_bytes now name in
    let same = length-header_bytes was h.has.name ∙ sym len in
    let puts = rebodied_as
    (over_piece [] (header_bytes was) _ (header_bytes now) 0 refl same
    ∙ ap (λ (n : ℕ). header_bytes now ++ drop (0 + n) (bytes_under old db)) same)
    (then_by (λ bytes. overwritten bytes 0 (header_bytes now)) h.managers h.puts r) in
    record {
      managers = h.managers;
      has = begins now name (ap (take 78) puts.body ∙ take_at (header_bytes now) _ 78 len);
      puts = puts;
      len = length_kept 0 (header_bytes now) r (omega (arith, len, h.has.inside)) ∙ h.len;
    }

-- the modification number is raised
pub then_raised : {old mid new : List ℕ} {db : ℕ} {d : Database ℕ} {was : ℕ} → Headed old mid db d
    → was ≡ d.header.modification_number
    → PutsHeader mid new db (HasModificationNumber (next_modification was))
    → Headed old new db (counted d)
then_raised {d = d} h is puts = then_headed (counted d) h h.has.name (puts d (counted d) h.has (record {
  values = ap (λ (n : ℕ). record d.header { modification_number = next_modification n }) (sym is);
  app_info = refl;
  sort_info = refl;
  entries = refl;
}))

-- over a database with the same entries it spells the new one
pub respelled_header : {old new : List ℕ} {db : ℕ} {now : Database ℕ} → SpellsHere old db
    → Headed old new db now → DatabaseFits now → now.entries ≡ (database_here old db).entries
    → Rebodies old new db (spelled now)
respelled_header {old} {db = db} {now} s h fits same = rebodied_as
    (ap (λ (body : List ℕ). overwritten body 0 (header_bytes now)) s.spelled.bytes_are
    ∙ sym (spelled_header (database_here old db) now s.spelled.fits fits same)) h.puts
