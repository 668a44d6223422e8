-- That a database is deleted, or that a locked chunk of it forbids that, is a step of the store.
use Rattle.palm_store.proofs.Words.{◌≡◌, ◌≢◌, ℕ, ◌+◌, ◌*◌, ◌<◌, ◌≤◌, List, [], ◌∷◌, ◌++◌, length, Some, None, refl, ap, ◌∙◌, arith, inl, inr, cases_eq, cases_lt, ◌==◌, if◌then◌else◌, Any, is_some, Memory, KeepsLoan, HeapAccepted, directory_of, held, Still, gone, callers_map, times, Leaves, Database, data_in, Of, IsLocked, StoredDatabase, owner_of, owner_under, directory_bytes, database_under, Accepted, store_of, all_gone, DoesInStore, Db, ChunkLocked, Delete, times-cons, times-append, drop_steps, refused, in_here, in_store, number_slot, HasNumber, IsListedAt, named_under, Unlists}
use Rattle.heap_model.specs.declared.call.Call.TheVariants as calls
use Rattle.heap_model.specs.declared.call.Reply.TheVariants as replies
use Rattle.palm_store.proofs.Numbers.{stands, length-listed, no_directory}
use Rattle.palm_store.proofs.Maps.{kept, is_gone}
use Rattle.palm_store.proofs.ListedSlots.{few_bytes}
use Rattle.palm_store.proofs.NamedChunks.{number_unnamed, freed_one, freed_more}
use Rattle.palm_store.proofs.TwoSteps.{no_chunk}
use Rattle.palm_store.proofs.BlockCalls.{known_number}
use Rattle.palm_store.proofs.Creation.{directory_unlocked}
use Rattle.palm_store.proofs.Deletion.{went, directory_kept, index_inside, drops, clears}

pub header_other : (old mid : List ℕ) (db : ℕ) → Accepted old → HasNumber old db → Leaves old mid (all_gone (held old) (named_under old db)) → db ≢ directory_of mid
header_other old mid db a has l e = let slot = number_slot old db a has in slot.other (e ∙ l.frame.directory)

pub header_left : (old mid : List ℕ) (db : ℕ) → Accepted old → HasNumber old db → Leaves old mid (all_gone (held old) (named_under old db)) → owner_under mid db ≡ 0
unfolding owner_under
header_left old mid db a has l = ap owner_of (kept old mid (named_under old db) db l (number_unnamed old db a has)) ∙ (number_slot old db a has).owner

freed_alike : (old new one other : List ℕ) → ((name : ℕ) → times name one ≡ times name other) → Leaves old new (all_gone (held old) one) → Leaves old new (all_gone (held old) other)
freed_alike old new one other alike l = record { map = λ name. l.map name ∙ ap (λ (n : ℕ). if n == 0 then held old name else None) (alike name); frame = l.frame; still = l.still }

pub all_freed : (old mid new : List ℕ) (db : ℕ) → Leaves old mid (all_gone (held old) (named_under old db)) → Leaves mid new (gone (held mid) db) → Leaves old new (all_gone (held old) (went (database_under old db)))
all_freed old mid new db l m = freed_alike old new (named_under old db ++ db ∷ []) (went (database_under old db))
    (λ name. omega (arith, times-append name (named_under old db) (db ∷ []), times-cons name db [], times-cons name db (named_under old db)))
    (freed_more old mid new (named_under old db) (db ∷ []) l (freed_one mid new db m))

-- the directory before the slot is taken out: there is a directory
directory_some : (image : List ℕ) (db index : ℕ) → Accepted image → IsListedAt image db index → 0 < directory_of image
directory_some image db index a at = elim (cases_lt 0 (directory_of image)) [
  | inl some ↦ some
  | inr none ↦ absurd (omega (arith, ap length (no_directory image a.heap (omega arith)), length-listed image, at.inside))
]

-- the directory is still as it was
pub record Listing (image : List ℕ) (index : ℕ) : Type 0 where
  pub heap : HeapAccepted image
  pub some : 0 < directory_of image
  pub few : length (directory_bytes image) ≤ 4096
  pub inside : 4 * index + 4 ≤ length (directory_bytes image)

pub lists_still : (old mid : List ℕ) (db index : ℕ) → Accepted old → IsListedAt old db index → Leaves old mid (all_gone (held old) (went (database_under old db))) → Listing mid index
lists_still old mid db index a at l =
    let s = stands old db index at in
    let bytes = ap length (directory_kept old mid index (database_under old db) a s l) in
    record { heap = l.frame.accepted; some = omega (arith, l.frame.directory, directory_some old db index a at); few = omega (arith, bytes, few_bytes old a); inside = omega (arith, bytes, index_inside old index s.inside) }

-- no locked chunk that is left has moved
still_left : (old mid new names : List ℕ) (index : ℕ) → HeapAccepted old → Leaves old mid (all_gone (held old) names) → Unlists mid new index → Still old new
still_left old mid new names index h l u name live e locked there = elim (cases_eq name (directory_of old)) [
  | inl d ↦ absurd (omega (arith, directory_unlocked old name live h e d))
  | inr apart ↦
      let stays : held new name ≡ held mid name = u.others name (λ f. apart (f ∙ l.frame.directory)) in
      elim (cases_eq (times name names) 0) [
        | inl out ↦
            let is : held mid name ≡ Some live = kept old mid names name l out ∙ e in
            u.still name live is locked there ∙ l.still name live e locked (ap is_some is)
        | inr here ↦ absurd (no_chunk (held new name) (stays ∙ is_gone old mid names name l (omega arith)) there)
      ]
]

-- a chunk that the database names has a lock
abbrev pub HasLocked : List ℕ → List ℕ → Type 0
HasLocked image names = Any (λ name. Of (callers_map image name) IsLocked) names

pub deleted : (old mid new : Memory) (db : Db) (index : ℕ) → Accepted old.bytes → HasNumber old.bytes db.0 → IsListedAt old.bytes db.0 index → (HasLocked old.bytes (named_under old.bytes db.0) → ⊥)
    → Leaves old.bytes mid.bytes (all_gone (held old.bytes) (went (database_under old.bytes db.0))) → Unlists mid.bytes new.bytes index → KeepsLoan old new → new ≡ record old { bytes = new.bytes; slid = new.slid } → DoesInStore old (calls.Database (Delete db)) replies.Done new
unfolding store_of
deleted old mid new db index a has at free l u loan rest =
    let one : StoredDatabase = database_under old.bytes db.0 in
    let s = stands old.bytes db.0 index at in
    let left = drop_steps old.bytes new.bytes db index one a refl (drops old.bytes mid.bytes new.bytes index one a s l u) (clears old.bytes mid.bytes new.bytes index one a s l u) in
    record {
      before = a;
      step = ((known_number old.bytes db has, ((λ locked. free (in_here old.bytes db (λ (database : Database ℕ). HasLocked old.bytes (data_in database)) has locked)), tt)), (tt, left.same));
      accepted = left.accepted;
      len = u.len ∙ l.frame.len;
      tables = u.tables ∙ l.frame.tables;
      directory = inl (u.directory ∙ l.frame.directory);
      loan = loan;
      still = still_left old.bytes mid.bytes new.bytes (went one) index a.heap l u;
      asks = tt;
      rest = rest;
    }

pub not_deleted : (old : Memory) (db : Db) → Accepted old.bytes → HasNumber old.bytes db.0 → HasLocked old.bytes (named_under old.bytes db.0) → DoesInStore old (calls.Database (Delete db)) (replies.Refused ChunkLocked) old
unfolding store_of
not_deleted old db a has locked =
    let named = in_store old.bytes db (λ (database : Database ℕ). HasLocked old.bytes (data_in database)) has locked in
    refused old (calls.Database (Delete db)) ChunkLocked a (inr (known_number old.bytes db has, inl (named, refl)))
