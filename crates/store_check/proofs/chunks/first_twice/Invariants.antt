-- The loop of `first_twice` keeps its invariant: no mark before this number is 2.
use Rattle.store_check.proofs.Terms.{ℕ, ◌<◌, IsMarkedTwice}
use Rattle.store_check.proofs.chunks.first_twice.Given as goal

abbrev pub invariant-loop-number : goal.invariant-loop-number
invariant-loop-number l = (number : ℕ) → number < l.number → IsMarkedTwice l.marks number → ⊥
