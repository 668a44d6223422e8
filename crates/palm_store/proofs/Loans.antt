-- What is not lent: chunks of the manager's, and those without a lock.
use Rattle.palm_store.proofs.Words.{[], ◌≡◌, ◌≢◌, ℕ, List, Some, refl, sym, ap, ◌∙◌, arith, inl, inr, cases_eq, Memory, HeapAccepted, directory_of, IsLent, LiveChunk, Of, IsLocked, held, owner_under, Accepted, directory_owner, Found, IsHere, IsMovable, StandsAs, lock_viewed, HasNumber, Ok, Err, IfOk, OnErr, callers_map, bytes_of, bytes_under, store_of, Name, Refusal, shown, OnLoan, KnownIds, IsStore, TakesOutOfStore}
use Rattle.mem_manager.proofs.ChunkCalls.{lock_small}
use Rattle.palm_store.proofs.Maps.{owner_held}
use Rattle.palm_store.proofs.Numbers.{number_slot}
use Rattle.std.specs.Prelude.{Result, replicate, length}
use Rattle.laws_store.proofs.MemoryCalls.{known_owner}
use Rattle.mem_manager.specs.Loans as loans
use Rattle.palm_store.proofs.FilledData.{rewritten_steps}
use Rattle.palm_store.proofs.KnownIds.{stand_still}

-- where nothing is lent
pub none_lent : (memory : Memory) (name : ℕ) → memory.lents ≡ [] → IsLent memory name → ⊥
none_lent memory name none lent = rw none at lent

-- chunks of the manager's
pub managers_here : (memory : Memory) (name : ℕ) → owner_under memory.bytes name ≡ 0 → IsHere memory name
managers_here memory name own = record { not_lent = λ other lent. other own }

pub owned_here : (memory : Memory) (name : ℕ) (live : LiveChunk) → held memory.bytes name ≡ Some live → live.owner ≡ 0 → IsHere memory name
owned_here memory name live there own = managers_here memory name (owner_held memory.bytes name live there ∙ own)

pub number_here : (memory : Memory) (db : ℕ) → Accepted memory.bytes → HasNumber memory.bytes db → IsHere memory db
number_here memory db a has = managers_here memory db (number_slot memory.bytes db a has).owner

pub directory_here : (memory : Memory) (name : ℕ) → HeapAccepted memory.bytes → name ≡ directory_of memory.bytes → name ≢ 0 → IsHere memory name
directory_here memory name h is some = managers_here memory name (ap (owner_under memory.bytes) is ∙ directory_owner memory.bytes h (omega arith))

-- chunks without a lock
pub loose_here : (memory : Memory) (name : ℕ) (found : Found) (live : LiveChunk) → HeapAccepted memory.bytes → StandsAs memory.bytes name found → held memory.bytes name ≡ Some live → live.lock ≡ 0 → (found.lock ≡ 0 → IsLent memory name → ⊥) → IsHere memory name
loose_here memory name found live h s there none unlocked = record { not_lent = λ other lent. unlocked (lock_viewed memory memory name found live refl h s.is there ∙ none) lent }

-- a movable one that isn't locked has none
pub unlocked_here : (memory : Memory) (name : ℕ) (found : Found) → HeapAccepted memory.bytes → StandsAs memory.bytes name found → IsMovable memory.bytes name → (Of (held memory.bytes name) IsLocked → ⊥) → (found.lock ≡ 0 → IsLent memory name → ⊥) → IsHere memory name
unlocked_here memory name found h s m not_locked unlocked =
    let lock = lock_viewed memory memory name found m.live refl h s.is m.is_held in
    let most = lock_small memory.bytes name found h s.is in
    let none : found.lock ≡ 0 = elim (cases_eq found.lock 0) [
      | inl none ↦ none
      | inr some ↦ absurd (not_locked (rw m.is_held (omega (arith, some, lock), omega (arith, most, s.movable, lock))))
    ] in
    record { not_lent = λ other lent. unlocked none lent }

-- bytes that are taken out: what callers see of a heap's chunk, they see of a store's
pub seen_bytes : (image : List ℕ) (name : ℕ) (bytes : List ℕ) → bytes_of (callers_map image name) ≡ bytes → bytes_of ((store_of image).map name) ≡ bytes
unfolding store_of
seen_bytes image name bytes is = is

-- what is taken out has an owner other than the manager, so the store has it
pub takes_out : (old new : Memory) (name : Name) (result : Result OnLoan Refusal) → Accepted old.bytes → IfOk result (λ loan. loans.TakesOut old new name loan) → IfOk result (λ loan. TakesOutOfStore old new name loan)
unfolding store_of owner_under bytes_under
takes_out old new name (Ok loan) a t =
    let own = known_owner (held old.bytes name.0) t.could.0 in
    record {
      could = t.could;
      name_is = t.name_is;
      bytes = t.bytes ∙ sym (ap bytes_of (shown (held old.bytes name.0) own));
      leaves = rewritten_steps old.bytes new.bytes name.0 (replicate (length loan.part.bytes) 0) a own t.leaves;
      out = t.out;
      is_lent = t.is_lent;
      unmoved = t.unmoved;
      at = t.at;
      placed = t.placed;
      there = t.there;
      rest = t.rest;
    }
takes_out old new name (Err refusal) a t = tt

-- the store is one still
pub takes_replied : (old new : Memory) (name : Name) (known : KnownIds) (result : Result OnLoan Refusal) → IsStore old.bytes known → IfOk result (λ loan. loans.TakesOut old new name loan) → OnErr result (new ≡ old) → IsStore new.bytes known
takes_replied old new name known (Ok loan) s t same =
    let left = (takes_out old new name (Ok loan) s.accepted t).leaves in
    record { accepted = left.accepted; free = stand_still (store_of old.bytes) (store_of new.bytes) known left.same.databases s.free }
takes_replied old new name known (Err refusal) s t same = rw same s
