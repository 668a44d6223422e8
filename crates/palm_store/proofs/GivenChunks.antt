-- Whether a database can take a chunk: what refuses it, by the chunk's owner and its locks.
use Rattle.palm_store.proofs.Words.{◌≡◌, ◌≢◌, ℕ, List, Some, None, refl, sym, ap, ◌∙◌, arith, inl, inr, IsSome, fixed_lock, data_owner, managers_owner, LiveChunk, held, not_owned, callers_map, Of, NoneHolds, FirstBrings, owner_under, store_of, InvalidHandle, OwnedByDatabase, ChunkFixed, hidden, callers_some, MayBeGiven, checks_of_giving}
use Rattle.mem_manager.proofs.StepWords.{of_known, not_of_known, is_known}
use Rattle.palm_store.proofs.Maps.{owner_held}
use Rattle.palm_store.proofs.TwoChanges.{is_there}

-- a caller's chunk is there
record IsCallers (image : List ℕ) (name : ℕ) : Type 0 where
  live : LiveChunk
  there : held image name ≡ Some live
  known : callers_map image name ≡ Some live
  owner : owner_under image name ≡ live.owner

callers : (image : List ℕ) (name : ℕ) → IsSome (held image name) → owner_under image name ≢ managers_owner → IsCallers image name
callers image name there other =
    let one = is_there (held image name) there in
    let owner = owner_held image name one.0 one.1 in
    record { live = one.0; there = one.1; known = callers_some image name one.0 one.1 (λ z. other (owner ∙ z)); owner = owner }

-- callers know no such chunk
pub unknown_why : (image : List ℕ) (name : ℕ) → held image name ≡ None → FirstBrings (checks_of_giving image name) InvalidHandle
unfolding store_of
unknown_why image name none = inl (ap (not_owned 0) none, refl)

pub managers_why : (image : List ℕ) (name : ℕ) → owner_under image name ≡ managers_owner → FirstBrings (checks_of_giving image name) InvalidHandle
unfolding store_of owner_under
managers_why image name own = inl (hidden (held image name) own, refl)

pub data_why : (image : List ℕ) (name : ℕ) → IsSome (held image name) → owner_under image name ≡ data_owner → FirstBrings (checks_of_giving image name) OwnedByDatabase
unfolding store_of
data_why image name there own =
    let c = callers image name there (λ e. omega arith) in
    inr (is_known c.known, inl (of_known (λ live. live.owner ≡ data_owner) c.known (sym c.owner ∙ own), refl))

-- it is neither the manager's nor one for data, and has this lock
module _ (image : List ℕ) (name lock : ℕ) (there : IsSome (held image name)) (other : owner_under image name ≢ managers_owner) (apart : owner_under image name ≢ data_owner) (locks : (live : LiveChunk) → held image name ≡ Some live → lock ≡ live.lock) where
  chunk : IsCallers image name
  chunk = callers image name there other

  no_data : Of (callers_map image name) (λ live. live.owner ≡ data_owner) → ⊥
  no_data = not_of_known (λ live. live.owner ≡ data_owner) chunk.known (λ e. apart (chunk.owner ∙ e))

  pub fixed_why : lock ≡ fixed_lock → FirstBrings (checks_of_giving image name) ChunkFixed
  unfolding store_of
  fixed_why is = inr (is_known chunk.known, inr (no_data, inl (of_known (λ live. live.lock ≡ fixed_lock) chunk.known (sym (locks chunk.live chunk.there) ∙ is), refl)))

  pub giving_could : lock ≢ fixed_lock → NoneHolds (checks_of_giving image name)
  unfolding store_of
  giving_could ne = (is_known chunk.known, (no_data, (not_of_known (λ live. live.lock ≡ fixed_lock) chunk.known (λ e. ne (locks chunk.live chunk.there ∙ e)), tt)))

  pub giving_may : lock ≢ fixed_lock → MayBeGiven image name
  unfolding store_of
  giving_may ne = of_known (λ live. (live.owner ≢ data_owner) × (live.lock ≢ fixed_lock)) chunk.known ((λ e. apart (chunk.owner ∙ e)), (λ e. ne (locks chunk.live chunk.there ∙ e)))
