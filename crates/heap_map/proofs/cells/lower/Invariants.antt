-- The loop of `lower` keeps its invariant: the marks before this one are lowered, and no other mark
-- has changed.
use Rattle.heap_map.proofs.Words.{◌≡◌, ◌<◌, ◌≤◌, ℕ, ◌⊎◌, min, slice_index}
use Rattle.heap_map.proofs.cells.lower.Given as goal

abbrev pub invariant-loop-k : goal.invariant-loop-k
invariant-loop-k l = record {
  inside : (j : ℕ) → l.first ≤ j → j < l.k
      → slice_index l.marks j ≡ min l.mark (slice_index l.initial.marks j);
  outside : (j : ℕ) → (j < l.first) ⊎ (l.k ≤ j)
      → slice_index l.marks j ≡ slice_index l.initial.marks j;
}
