-- Chunks for data: callers may name them, and they are movable.
use Rattle.palm_store.proofs.Words.{◌≡◌, ◌≢◌, ℕ, ◌<◌, List, Option, Some, None, refl, ap, ◌∙◌, arith, Chunk, free, movable, fixed, fixed_lock, Spelled, data_owner, managers_owner, HeapAccepted, Of, not_owned, inl, inr, cases_eq, eq-eqb, ne_eqb, IsCallersIfFixed, directory_of, LiveChunk, NamedHere, held, callers_map, owner_under, zero, suc, held-zero, none_some, held_finds, finds_spelled, callers_some, IsMovable, directory_owner}
use Rattle.laws_heap.proofs.AlteredChunks.{finds_callers}
use Rattle.laws_heap.proofs.FixedNames.{fixed_live_is}
use Rattle.palm_store.proofs.Maps.{Owned, owned}

-- a name of a chunk is not 0
pub name_some : (image : List ℕ) (name : ℕ) (live : LiveChunk) → HeapAccepted image → held image name ≡ Some live → 0 < name
name_some image zero live h e = absurd (none_some (held image 0) live (held-zero image h) e)
name_some image (suc name) live h e = omega arith

-- a chunk that callers may name, and what it is
pub record IsShown (image : List ℕ) (name : ℕ) (P : LiveChunk → Type 0) : Type 0 where
  pub live : LiveChunk
  pub there : held image name ≡ Some live
  pub known : callers_map image name ≡ Some live
  pub callers : live.owner ≢ managers_owner
  pub holds : P live

pub is_shown : (image : List ℕ) (name : ℕ) (P : LiveChunk → Type 0) → Of (callers_map image name) P → IsShown image name P
is_shown image name P of = by (held image name) refl of where
  by : (o : Option LiveChunk) → held image name ≡ o → Of (not_owned 0 o) P → IsShown image name P
  by None e of = absurd of
  by (Some live) e of = elim (cases_eq live.owner 0) [
    | inl own ↦ absurd (rw (eq-eqb live.owner 0 own) at of)
    | inr own ↦ record { live = live; there = e; known = callers_some image name live e own; callers = own; holds = rw (ne_eqb live.owner 0 own) at of }
  ]

pub for_data : (image : List ℕ) (name : ℕ) → owner_under image name ≡ data_owner → Owned image name 15
for_data image name own = owned image name 15 own (omega arith)

pub data_callers : (image : List ℕ) (name : ℕ) → (d : Owned image name 15) → callers_map image name ≡ Some d.live
data_callers image name d = (let own = d.own in callers_some image name d.live d.there (λ e. omega arith))

not_fixed : (image : List ℕ) (at name : ℕ) (live : LiveChunk) (c : Chunk) → live.owner ≡ 15 → NamedHere name live at c → IsCallersIfFixed at c → Spelled image at c → live.lock ≢ fixed_lock
not_fixed image at name live (free size) own n callers s e = absurd n
not_fixed image at name live (movable bytes lock owner slot) own n callers s e =
    let same : lock ≡ live.lock = ap (λ (l : LiveChunk). l.lock) n.1 in
    omega arith
not_fixed image at name live (fixed bytes owner) own n callers s e =
    let same : owner ≡ live.owner = ap (λ (l : LiveChunk). l.owner) (fixed_live_is at bytes owner n) in
    omega arith

pub data_movable : (image : List ℕ) (name : ℕ) → HeapAccepted image → Owned image name 15 → IsMovable image name
data_movable image name h d =
    let found = held_finds image name d.live h d.there in
    let f = found.finds in
    record {
      live = d.live;
      is_held = d.there;
      movable = not_fixed image found.at name d.live found.chunk d.own f.named (finds_callers image name d.live found.chunk found.at h f) (finds_spelled image name d.live found.chunk found.at h f);
    }

-- it isn't the directory
pub data_no_directory : (image : List ℕ) (name : ℕ) → HeapAccepted image → 0 < name → owner_under image name ≡ data_owner → name ≢ directory_of image
data_no_directory image name h some own e = (let directory = ap (owner_under image) e ∙ directory_owner image h (omega arith) in omega arith)
