-- The loop of `count_bytes` keeps its invariant: the cells before this one have their bytes
-- counted, and no other count has changed.
use Rattle.heap_map.proofs.Words.{◌≡◌, ◌+◌, ◌<◌, ◌≤◌, ℕ, ◌⊎◌, slice_index, in_cell}
use Rattle.heap_map.proofs.cells.count_bytes.Given as goal

abbrev pub invariant-loop-k : goal.invariant-loop-k
invariant-loop-k l = record {
  inside : (j : ℕ) → l.first ≤ j → j < l.k
      → slice_index l.counts j ≡ slice_index l.initial.counts j + in_cell l.size j l.from l.to;
  outside : (j : ℕ) → (j < l.first) ⊎ (l.k ≤ j)
      → slice_index l.counts j ≡ slice_index l.initial.counts j;
}
