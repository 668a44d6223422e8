-- Sets of numbers, as the bits of a list of bytes. Each byte has the bits of eight numbers, the
-- least in its lowest bit.
use Rattle.std.specs.Prelude.{◌≡◌, ◌≢◌, ◌≤◌, ◌<◌, ◌/◌, ◌%◌, ◌↔◌, ℕ, List, slice_index}
use Rattle.std.specs.Int.{bit_at}
use Rattle.heap_model.specs.Lists.{Least}

-- the number is in the set
abbrev pub IsInSet : List ℕ → ℕ → Type 0
IsInSet set number = bit_at (slice_index set (number / 8)) (number % 8) ≡ 1

-- no number is in the set
abbrev pub HasNone : List ℕ → Type 0
HasNone set = (number : ℕ) → IsInSet set number → ⊥

-- a number is added to a set; each other number is in the set exactly if it was before
pub record AddsNumber (old new : List ℕ) (number : ℕ) : Type 0 where
  pub here : IsInSet new number
  pub others : (other : ℕ) → other ≢ number → (IsInSet new other ↔ IsInSet old other)

-- a number is removed from a set; each other number is in the set exactly if it was before
pub record RemovesNumber (old new : List ℕ) (number : ℕ) : Type 0 where
  pub gone : IsInSet new number → ⊥
  pub others : (other : ℕ) → other ≢ number → (IsInSet new other ↔ IsInSet old other)

-- each number of the set is still in it if its bit is in another byte than this number's
abbrev pub KeepsOtherBytes : List ℕ → List ℕ → ℕ → Type 0
KeepsOtherBytes old new number = (other : ℕ) → other / 8 ≢ number / 8 → IsInSet old other → IsInSet new other

-- the number is the least that isn't in the set
abbrev pub IsFirstMissing : List ℕ → ℕ → Type 0
IsFirstMissing set number = Least (λ other. IsInSet set other → ⊥) number

-- no number of the set is `from` or greater, but below `end`
abbrev pub HasNoneBetween : List ℕ → ℕ → ℕ → Type 0
HasNoneBetween set from end = (number : ℕ) → from ≤ number → number < end → IsInSet set number → ⊥

-- the number is the least of the set that is `from` or greater
pub record IsLeastFrom (set : List ℕ) (from number : ℕ) : Type 0 where
  pub least : from ≤ number
  pub here : IsInSet set number
  pub none_before : HasNoneBetween set from number

-- no number of the set is `from` or greater
abbrev pub HasNoneFrom : List ℕ → ℕ → Type 0
HasNoneFrom set from = (number : ℕ) → from ≤ number → IsInSet set number → ⊥
