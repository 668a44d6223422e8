-- The loop of `check_order` keeps its invariant: no block so far is misplaced.
use Rattle.file_parts.proofs.AllWords.{◌≡◌, ◌<◌, ℕ, false, is_misplaced, exact_packed}
use Rattle.file_parts.proofs.exact_packing.check_order.Given as goal

abbrev pub invariant-loop-index : goal.invariant-loop-index
invariant-loop-index l = (k : ℕ) → k < l.index
    → is_misplaced (exact_packed l.exact l.parts) k ≡ false
