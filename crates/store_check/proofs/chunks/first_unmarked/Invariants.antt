-- The loop of `first_unmarked` keeps its invariant: no number before this one is without a mark and
-- has an owner.
use Rattle.store_check.proofs.Terms.{ℕ, ◌<◌, IsUnmarked}
use Rattle.store_check.proofs.chunks.first_unmarked.Given as goal

abbrev pub invariant-loop-number : goal.invariant-loop-number
invariant-loop-number l = (number : ℕ) → number < l.number → IsUnmarked l.marks l.owners number → ⊥
