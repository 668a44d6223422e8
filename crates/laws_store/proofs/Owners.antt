-- The owners of names: which names are slots, and which chunks are the manager's.
use Rattle.laws_store.proofs.Words.{◌≡◌, ℕ, zero, suc, ◌+◌, ◌<◌, List, Option, Some, None, refl, ap, ◌∙◌, arith, inl, inr, ◌⊎◌, Chunk, free, movable, fixed, total, managers_owner, data_owner, AnyPlaced, IsSlot, area_start, BodyHere, IsCallersIfFixed, ManagersHere, HeapAccepted, directory_of, LiveChunk, NamedHere, chunks_of, held, owner_of, owner_under, AnyPlaced-parts, AnyPlaced-mid, finds_callers, fixed_live_is, read_heap, finds_held, held_finds, held-zero}

-- the name 0 has no owner
pub owner-zero : (image : List ℕ) → HeapAccepted image → owner_under image 0 ≡ 16
unfolding owner_under
owner-zero image heap = ap owner_of (held-zero image heap)

-- what has an owner is not 0
pub owned_some : (image : List ℕ) (name owner : ℕ) → HeapAccepted image
    → owner_under image name ≡ owner → owner < 16 → 0 < name
owned_some image zero owner heap e below = let none = owner-zero image heap in absurd (omega arith)
owned_some image (suc name) owner heap e below = omega arith

managers_live : (slot at : ℕ) (chunk : Chunk) → ManagersHere slot at chunk
    → (live : LiveChunk) × NamedHere slot live at chunk × (live.owner ≡ 0)
managers_live slot at (free size) m = absurd m
managers_live slot at (movable bytes lock owner named) m =
    (record { bytes = bytes; lock = lock; owner = owner }, (m.0, refl), m.1)
managers_live slot at (fixed bytes owner) m = absurd m

-- the directory is the manager's, if there is one
pub directory_owner : (image : List ℕ) → HeapAccepted image → 0 < directory_of image
    → owner_under image (directory_of image) ≡ managers_owner
unfolding owner_under
directory_owner image h some = elim (read_heap image h).directory [
  | inl none ↦ absurd (omega arith)
  | inr any ↦
      let p = AnyPlaced-parts _ (area_start image) (chunks_of image) any in
      let m = managers_live (directory_of image) _ p.chunk p.holds in
      ap owner_of (finds_held image (directory_of image) m.0 p.chunk
      (area_start image + total p.before) h
      (record { before = p.before; after = p.after; chunks = p.parts; there = refl; named = m.1 }))
      ∙ m.2
]

-- ---- these chunks are movable, and their names are slots

owned_body : (slot : ℕ) (live : LiveChunk) (at : ℕ) (c : Chunk)
    → (live.owner ≡ 0) ⊎ (live.owner ≡ 15) → NamedHere slot live at c → IsCallersIfFixed at c
    → BodyHere slot (at + 8) at c
owned_body slot live at (free size) owner n callers = absurd n
owned_body slot live at (movable bytes lock own named) owner n callers = (n.0, refl)
owned_body slot live at (fixed bytes own) owner n callers =
    let same : own ≡ live.owner = ap (λ (l : LiveChunk). l.owner) (fixed_live_is at bytes own n) in
    let low = callers.0 in
    let high = callers.1 in
    absurd (elim owner [ inl e ↦ omega arith | inr e ↦ omega arith ])

held_slot : (image : List ℕ) (slot : ℕ) (live : LiveChunk) → HeapAccepted image
    → held image slot ≡ Some live → (live.owner ≡ 0) ⊎ (live.owner ≡ 15) → IsSlot image slot
held_slot image slot live h e owner =
    let heap = read_heap image h in
    let found = held_finds image slot live h e in
    let f = found.finds in
    let start : ℕ = area_start image in
    let here : ℕ = start + total f.before in
    let named : NamedHere slot live here found.chunk = rw f.there at f.named in
    let callers : IsCallersIfFixed here found.chunk =
    rw f.there at (finds_callers image slot live found.chunk found.at h f) in
    let body = owned_body slot live here found.chunk owner named callers in
    let any : AnyPlaced (BodyHere slot (here + 8)) start (chunks_of image) =
    rw (← f.chunks) at (AnyPlaced-mid
    (BodyHere slot (here + 8)) start f.before found.chunk f.after body) in
    ((heap.tied slot (here + 8) (omega arith)).1 any).0

-- a name with one of these owners is a slot
pub owned_slot : (image : List ℕ) (name : ℕ) → HeapAccepted image
    → (owner_under image name ≡ managers_owner) ⊎ (owner_under image name ≡ data_owner)
    → IsSlot image name
unfolding owner_under
owned_slot image name h owner = by (held image name) refl owner where
  by : (o : Option LiveChunk) → held image name ≡ o → (owner_of o ≡ 0) ⊎ (owner_of o ≡ 15)
      → IsSlot image name
  by None e own = absurd (elim own [ inl z ↦ omega arith | inr z ↦ omega arith ])
  by (Some live) e own = held_slot image name live h e own
