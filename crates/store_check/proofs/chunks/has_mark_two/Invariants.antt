-- The loop of `has_mark_two` keeps its invariant: it has found a mark of 2 exactly if one is before
-- the index.
use Rattle.store_check.proofs.Terms.{ℕ, ◌<◌, ◌≤◌, IsTrue, ◌↔◌, slice_index}
use Rattle.store_check.proofs.chunks.has_mark_two.Given as goal

abbrev pub invariant-loop-mark : goal.invariant-loop-mark
invariant-loop-mark l =
    IsTrue l.found ↔ ((number : ℕ) × (number < l.mark-index) × (2 ≤ slice_index l.marks number))
