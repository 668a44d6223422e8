-- Lists: those that a function of the index gives, how often a number occurs in a list, and an
-- element moved. And the least number, or pair of numbers, that satisfies a predicate.
--
-- `insert`, `remove` and `slice_set` of std are the other edits of lists: an element put in, taken
-- out and replaced.
use Rattle.std.specs.Prelude.{◌≢◌, ◌<◌, ◌+◌, ◌-◌, ◌/◌, ◌*◌, ◌==◌, nat_lt, if◌then◌else◌, ℕ, List, length, map, count_by, slice_range}
use Rattle.std.specs.List.{AllPairs, range_with_len, remove, insert_slice}
use Rattle.heap_model.specs.Bytes.{u32_at}

-- the values of a function at 0, at 1, and so on below a number
abbrev pub numbered : {X : Type 0} → (ℕ → X) → ℕ → List X
numbered each count = map each (range_with_len 0 count)

-- the numbers of four bytes that follow one another in a list of bytes
abbrev pub u32s_in : List ℕ → List ℕ
u32s_in bytes = numbered (λ i. u32_at bytes (4 * i)) (length bytes / 4)

-- 1 if two numbers are the same, and otherwise 0
abbrev pub same : ℕ → ℕ → ℕ
same one other = if one == other then 1 else 0

-- how often a number occurs in a list
abbrev pub times : ℕ → List ℕ → ℕ
times number numbers = count_by (λ other. other == number) numbers

-- no element of a list equals a later one
abbrev pub Distinct : {X : Type 0} → List X → Type 0
Distinct xs = AllPairs (λ one other. one ≢ other) xs

-- the index at which an element taken out at `from` is put in, for the index `to` counted before
abbrev pub insertion_index : ℕ → ℕ → ℕ
insertion_index from to = if nat_lt from to then to - 1 else to

-- a list with the element at an index moved to before another index, both counted before the move
abbrev pub moved : {X : Type 0} → List X → ℕ → ℕ → List X
moved xs from to = insert_slice (remove xs from) (insertion_index from to) (slice_range xs from (from + 1))

-- the least number that satisfies a predicate
pub record Least (P : ℕ → Type 0) (n : ℕ) : Type 0 where
  pub here : P n
  pub none_below : (m : ℕ) → m < n → P m → ⊥

-- The first pair of numbers that satisfies a predicate. No pair with a lesser first number does,
-- nor one with the same first number and a lesser second.
pub record LeastPair (P : ℕ → ℕ → Type 0) (m n : ℕ) : Type 0 where
  pub here : P m n
  pub none_before : (k : ℕ) → k < m → (j : ℕ) → P k j → ⊥
  pub none_below : (j : ℕ) → j < n → P m j → ⊥
