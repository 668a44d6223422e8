-- The loop of `is_in_order` keeps its invariant: no block so far is misplaced.
use Rattle.file_parts.proofs.AllWords.{◌≡◌, ◌<◌, ℕ, false, is_misplaced, exact_replacing}
use Rattle.file_parts.proofs.replaced.is_in_order.Given as goal

abbrev pub invariant-loop-index : goal.invariant-loop-index
invariant-loop-index l = (k : ℕ) → k < l.index
    → is_misplaced (exact_replacing l.replacing) k ≡ false
