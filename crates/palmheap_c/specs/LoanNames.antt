-- The names of all chunks whose bytes are taken out, for C.
use Rattle.std.specs.Prelude.{◌≡◌, ◌<◌, ◌⊎◌, ℕ, List, length, map, take, drop}
use Rattle.allowance.specs.Refusals.{GrowthRefused}
use Rattle.heap_model.specs.Memory.{Memory}
use Rattle.heap_model.specs.Numbers.{number_of}
use Rattle.heap_model.specs.declared.names.Name.{Name}
use Rattle.heap_model.specs.declared.refusal.Refusal.TheVariants.{OutOfMemory}
use Rattle.mem_manager.specs.Loans.{AreLoansAbove}
use Rattle.palmheap_c.specs.Buffers.{call_no_room}

abbrev pub numbers_of_names : List Name → List ℕ
numbers_of_names names = map (λ name. name.0) names

-- The first `count` of the new numbers are the names of all chunks that are out, in order of their
-- places. The other numbers are unchanged.
pub record AreLoans (store : Memory) (old new : List ℕ) (count : ℕ) : Type 0 where
  pub names : List Name
  pub all : AreLoansAbove store 0 names
  pub counted : count ≡ length names
  pub are : take count new ≡ numbers_of_names names
  pub others : drop count new ≡ drop count old

-- more chunks are out than there is room for
pub record HasMoreLoans (store : Memory) (old new : List ℕ) (count : ℕ) : Type 0 where
  pub names : List Name
  pub all : AreLoansAbove store 0 names
  pub counted : count ≡ length names
  pub more : length old < count
  pub same : new ≡ old

-- The result of the search for all chunks that are out. There are three cases:
-- - Their names were written.
-- - There is too little room for them, and the numbers are unchanged.
-- - An allocation failed. The numbers and the count are unchanged.
abbrev pub IsLoansAnswer : Memory → (old new : List ℕ) → (was count : ℕ) → ℕ → Type 0
IsLoansAnswer store old new was count result =
    ((result ≡ 0) × AreLoans store old new count)
    ⊎ (((result ≡ call_no_room) × HasMoreLoans store old new count)
    ⊎ ((result ≡ number_of OutOfMemory) × GrowthRefused × (new ≡ old) × (count ≡ was)))
