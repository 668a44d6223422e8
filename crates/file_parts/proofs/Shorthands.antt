-- Short names for what many proofs repeat.
use Rattle.std.proofs.Common.{ℕ, List, Option}
use Rattle.std.specs.Prelude.{Bool, filter}
use Rattle.std.specs.List.{range_with_len}

-- what a part of a database holds: the bytes of a block, or none
abbrev pub Blob : Type 0
Blob = Option (List ℕ)

-- the numbers of a range that pass a test
abbrev pub passing : (ℕ → Bool) → ℕ → ℕ → List ℕ
passing test from n = filter test (range_with_len from n)
