-- What names stand for after some of them changed, and what stays where it is through two calls.
use Rattle.palm_store.proofs.Words.{◌≡◌, ◌≢◌, ℕ, ◌<◌, List, Option, Some, None, refl, ap, ◌∙◌, arith, eq-eqb, ne_eqb, ◌==◌, is_some, HeapAccepted, LiveChunk, ChunkMap, held, updated, changed, changed_at, Still, times, Leaves, bytes_of, owner_of, bytes_under, owner_under, all_gone, cond-true, cond-false, owned_some}
use Rattle.laws_store.proofs.Edited.{here as updated_here, apart as updated_apart}

-- one name that changed: it stands for this now
pub name_now : {old new : List ℕ} (name : ℕ) (now : Option LiveChunk) → Leaves old new (updated (held old) name now) → held new name ≡ now
name_now {old} name now l = l.map name ∙ updated_here (held old) name now name refl

-- its chunk was changed
pub chunk_now : {old new : List ℕ} (name : ℕ) (change : LiveChunk → LiveChunk) {live : LiveChunk} → Leaves old new (changed_at (held old) name change) → held old name ≡ Some live → held new name ≡ Some (change live)
chunk_now name change l e = name_now name _ l ∙ ap (changed change) e

-- every other name stands for what it stood for
pub others_now : {old new : List ℕ} (name : ℕ) (now : Option LiveChunk) → Leaves old new (updated (held old) name now) → (other : ℕ) → other ≢ name → held new other ≡ held old other
others_now {old} name now l other ne = l.map other ∙ updated_apart (held old) name now other ne

-- a map without some names
pub gone_out : (chunks : ChunkMap) (names : List ℕ) (name : ℕ) → times name names ≡ 0 → all_gone chunks names name ≡ chunks name
gone_out chunks names name none = cond-true (times name names == 0) (chunks name) None (eq-eqb (times name names) 0 none)

pub gone_in : (chunks : ChunkMap) (names : List ℕ) (name : ℕ) → 0 < times name names → all_gone chunks names name ≡ None
gone_in chunks names name some = cond-false (times name names == 0) (chunks name) None (ne_eqb (times name names) 0 (λ e. omega arith))

pub kept : (old mid : List ℕ) (names : List ℕ) (name : ℕ) → Leaves old mid (all_gone (held old) names) → times name names ≡ 0 → held mid name ≡ held old name
kept old mid names name l none = l.map name ∙ gone_out (held old) names name none

pub is_gone : (old mid : List ℕ) (names : List ℕ) (name : ℕ) → Leaves old mid (all_gone (held old) names) → 0 < times name names → held mid name ≡ None
is_gone old mid names name l some = l.map name ∙ gone_in (held old) names name some

-- the chunk of a name
pub owner_held : (image : List ℕ) (name : ℕ) (live : LiveChunk) → held image name ≡ Some live → owner_under image name ≡ live.owner
unfolding owner_under
owner_held image name live e = ap owner_of e

pub owner_none : (image : List ℕ) (name : ℕ) → held image name ≡ None → owner_under image name ≡ 16
unfolding owner_under
owner_none image name e = ap owner_of e

pub owner_alike : (old new : List ℕ) (name : ℕ) → held new name ≡ held old name → owner_under new name ≡ owner_under old name
unfolding owner_under
owner_alike old new name e = ap owner_of e

pub bytes_held : (image : List ℕ) (name : ℕ) (live : LiveChunk) → held image name ≡ Some live → bytes_under image name ≡ live.bytes
unfolding bytes_under
bytes_held image name live e = ap bytes_of e

-- a chunk that has an owner
pub record Owned (image : List ℕ) (name owner : ℕ) : Type 0 where
  pub live : LiveChunk
  pub there : held image name ≡ Some live
  pub own : live.owner ≡ owner

pub owned : (image : List ℕ) (name owner : ℕ) → owner_under image name ≡ owner → owner < 16 → Owned image name owner
unfolding owner_under
owned image name owner own low = by (held image name) refl own where
  by : (o : Option LiveChunk) → held image name ≡ o → owner_of o ≡ owner → Owned image name owner
  by None e is = absurd (omega arith)
  by (Some live) e is = record { live = live; there = e; own = is }

pub held_some : (image : List ℕ) (name : ℕ) (live : LiveChunk) → HeapAccepted image → held image name ≡ Some live → live.owner < 16 → 0 < name
held_some image name live h e low = owned_some image name live.owner h (owner_held image name live e) low

-- what stays through two calls
pub still_through : (old mid new : List ℕ) → Still old mid → Still mid new → ((name : ℕ) (live : LiveChunk) → held old name ≡ Some live → 0 < live.lock → held mid name ≡ Some live) → Still old new
still_through old mid new first second kept name live e locked there = second name live (kept name live e locked) locked there ∙ first name live e locked (ap is_some (kept name live e locked))
