-- The marks of lent parts: a bit for each multiple of 8, set where a lent part begins.
use Rattle.std.specs.Prelude.{◌≡◌, ◌≤◌, ◌<◌, ◌+◌, ◌/◌, ◌*◌, ◌%◌, ◌⊎◌, ◌↔◌, ℕ, List, length}
use Rattle.bit_sets.specs.Sets.{IsInSet}
use Rattle.heap_model.specs.Memory.{Lent, EachLent, SomeLent}

-- a lent part begins at an offset
abbrev pub BeginsAt : ℕ → List Lent → Type 0
BeginsAt at lents = SomeLent (λ lent. lent.at ≡ at) lents

-- a lent part can begin here: there is a bit for it
abbrev pub IsMarkable : ℕ → Type 0
IsMarkable at = (0 < at) × (at % 8 ≡ 0)

-- a vector with this capacity has room for the marks of a region of `size` bytes
abbrev pub HasRoomForMarks : ℕ → ℕ → Type 0
HasRoomForMarks size capacity = 0 < size → size / 64 < capacity

-- the marks of a region of `size` bytes say where its lent parts begin, and how many there are; bytes
-- of marks that were never written are missing at the end, and have no number
pub record KnowsMarks (marks : List ℕ) (size count : ℕ) (lents : List Lent) : Type 0 where
  pub few : length marks ≤ size / 64 + 1
  pub bits : (unit : ℕ) → (IsInSet marks unit ↔ BeginsAt (8 * unit) lents)
  pub even : EachLent (λ lent. IsMarkable lent.at) lents
  pub many : count ≡ length lents

-- a lent part begins at `next`, which is above `after`, and none begins between them
pub record IsNextLent (lents : List Lent) (after next : ℕ) : Type 0 where
  pub above : after < next
  pub begins : BeginsAt next lents
  pub none_before : EachLent (λ lent. (lent.at ≤ after) ⊎ (next ≤ lent.at)) lents

-- no lent part begins above an offset
abbrev pub NoneBeginsAbove : ℕ → List Lent → Type 0
NoneBeginsAbove after lents = EachLent (λ lent. lent.at ≤ after) lents
