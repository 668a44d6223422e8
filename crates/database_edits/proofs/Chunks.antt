-- The chunk of a database after one call, or after one call and another: its bytes are others, and
-- all other chunks are as they were.
use Rattle.database_edits.proofs.Words.{◌≡◌, ℕ, ◌+◌, ◌<◌, ◌≤◌, Bool, true, false, List, length, Option, Some, None, refl, sym, ap, subst, ◌∙◌, arith, inl, inr, cases_eq, ◌==◌, if◌then◌else◌, managers_owner, overwritten, LiveChunk, held, updated, changed, changed_at, put, sized, sized_to, bytes_of, owner_of, bytes_under, owner_under, Database, spelled, Leaves, Respells, length-overwritten, IsMovable, IsManagers, Rebodies}
use Rattle.std.specs.Option.{is_some}
use Rattle.laws_heap.proofs.Tests.{same_some}
use Rattle.laws_heap.proofs.SameLayouts.{same_frame, frame_then}
use Rattle.laws_store.proofs.Edited.{here, apart}
use Rattle.laws_store.proofs.NewDatabases.{managers_loose}

-- ---- the chunk

-- a chunk without a lock is under the slot
pub under : (image : List ℕ) (db : ℕ) → IsManagers image db
    → (live : LiveChunk) × (held image db ≡ Some live) × (live.lock ≡ 0)
unfolding owner_under
under image db m = by (held image db) refl m.owner where
  by : (o : Option LiveChunk) → held image db ≡ o → owner_of o ≡ managers_owner
      → (live : LiveChunk) × (held image db ≡ Some live) × (live.lock ≡ 0)
  by None e own = absurd (omega arith)
  by (Some live) e own = (live, e, managers_loose image db live m.heap e own)

pub is_movable : (image : List ℕ) (db : ℕ) → IsManagers image db → IsMovable image db
is_movable image db m =
    let u = under image db m in
    record { live = u.0; is_held = u.1; movable = λ e. omega (arith, u.2) }

-- ---- its bytes changed

abbrev pub with_bytes : (List ℕ → List ℕ) → LiveChunk → LiveChunk
with_bytes change live = record live { bytes = change live.bytes }

abbrev given : List ℕ → Option LiveChunk → Option LiveChunk
given bytes o = changed (with_bytes (λ was. bytes)) o

-- it stays the manager's, and the change could as well give it its new bytes
managers_changed : (change : List ℕ → List ℕ) (o : Option LiveChunk) → owner_of o ≡ managers_owner
    → (owner_of (changed (with_bytes change) o) ≡ managers_owner)
    × (bytes_of (changed (with_bytes change) o) ≡ change (bytes_of o))
    × (changed (with_bytes change) o ≡ given (change (bytes_of o)) o)
managers_changed change None own = absurd (omega arith)
managers_changed change (Some live) own = (own, refl, refl)

pub rebodied : {old new : List ℕ} {db : ℕ} (change : List ℕ → List ℕ) → IsManagers old db
    → Leaves old new (changed_at (held old) db (with_bytes change))
    → Rebodies old new db (change (bytes_under old db))
unfolding owner_under bytes_under
rebodied {old} {new} {db} change m l =
    let was = managers_changed change (held old db) m.owner in
    let now = l.map db ∙ here (held old) db (changed (with_bytes change) (held old db)) db refl in
    record {
      leaves = record {
        map = λ name. l.map name ∙ ap (λ (o : Option LiveChunk). updated (held old) db o name) was.2;
        frame = l.frame;
        still = l.still;
      };
      managers = record { heap = l.frame.accepted; owner = ap owner_of now ∙ was.0 };
      body = ap bytes_of now ∙ was.1;
    }

pub written : {old new : List ℕ} {db : ℕ} (at : ℕ) (part : List ℕ) → IsManagers old db
    → Leaves old new (put (held old) db at part)
    → Rebodies old new db (overwritten (bytes_under old db) at part)
written at part m l = rebodied (λ bytes. overwritten bytes at part) m l

-- nothing is changed, if these are its bytes
pub stays : {image : List ℕ} {db : ℕ} {bytes : List ℕ} → IsManagers image db
    → bytes_under image db ≡ bytes → Rebodies image image db bytes
unfolding bytes_under
stays {image} {db} {bytes} m is =
    let same : held image db ≡ given bytes (held image db) =
    itself (held image db) ∙ ap (λ (b : List ℕ). given b (held image db)) is in
    record {
      leaves = record {
        map = λ name. elim (cases_eq name db) [
          | inl e ↦ ap (held image) e ∙ same ∙ sym (here (held image) db _ name e)
          | inr ne ↦ sym (apart (held image) db _ name ne)
        ];
        frame = same_frame image m.heap;
        still = λ name live e locked there. refl;
      };
      managers = m;
      body = is;
    } where
      itself : (o : Option LiveChunk) → o ≡ given (bytes_of o) o
      itself None = refl
      itself (Some live) = refl

-- ---- one change after the other

-- a chunk with a lock is another, since that of a database has none
locked_stays : {old new : List ℕ} {db : ℕ} {bytes : List ℕ} (name : ℕ) (live : LiveChunk)
    → IsManagers old db → Rebodies old new db bytes → held old name ≡ Some live → 0 < live.lock
    → held new name ≡ Some live
locked_stays {old} {new} {db} name live m r e locked =
    r.leaves.map name ∙ apart (held old) db _ name (λ same.
    (let u = under old db m in
    let one = same_some live u.0 (sym e ∙ ap (held old) same ∙ u.1) in
    omega (arith, ap (λ (l : LiveChunk). l.lock) one, u.2))) ∙ e

-- bytes are given to a chunk or to none, and then others
given_twice : (one other : Bool) (first second : List ℕ) (o p : Option LiveChunk)
    → (if one then given second (if other then given first o else o)
    else (if one then given first o else p))
    ≡ (if one then given second o else p)
given_twice false other first second o p = refl
given_twice true false first second o p = refl
given_twice true true first second None p = refl
given_twice true true first second (Some live) p = refl

pub through : {old mid new : List ℕ} {db : ℕ} {first second : List ℕ} → IsManagers old db
    → Rebodies old mid db first → Rebodies mid new db second → Rebodies old new db second
through {old} {mid} {new} {db} {first} {second} m a b = record {
  leaves = record {
    map = λ name. rw (b.leaves.map name, a.leaves.map db, a.leaves.map name)
        (given_twice (name == db) (db == db) first second (held old db) (held old name));
    frame = frame_then old mid new a.leaves.frame b.leaves.frame;
    still = λ name live e locked there.
        (let kept = locked_stays name live m a e locked in
        b.leaves.still name live kept locked there
        ∙ a.leaves.still name live e locked (ap is_some kept));
  };
  managers = b.managers;
  body = b.body;
}

-- the second makes these of the bytes that the first left
pub then_by : {old mid new : List ℕ} {db : ℕ} {first : List ℕ} (change : List ℕ → List ℕ)
    → IsManagers old db → Rebodies old mid db first
    → Rebodies mid new db (change (bytes_under mid db)) → Rebodies old new db (change first)
then_by {old} {new = new} {db} change m a b =
    subst (Rebodies old new db) (ap change a.body) (through m a b)

-- the bytes are known to be others
pub rebodied_as : {old new : List ℕ} {db : ℕ} {bytes others : List ℕ} → bytes ≡ others
    → Rebodies old new db bytes → Rebodies old new db others
rebodied_as {old} {new} {db} is r = subst (Rebodies old new db) is r

-- bytes written over some leave as many
pub length_kept : {old new : List ℕ} {db : ℕ} (at : ℕ) (part : List ℕ)
    → Rebodies old new db (overwritten (bytes_under old db) at part)
    → at + length part ≤ length (bytes_under old db)
    → length (bytes_under new db) ≡ length (bytes_under old db)
length_kept at part r inside = ap length r.body ∙ length-overwritten _ at part inside
