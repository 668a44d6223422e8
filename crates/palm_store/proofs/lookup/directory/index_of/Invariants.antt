-- The number is listed at the index or after it.
use Rattle.palm_store.proofs.Words.{◌-◌, ◌/◌, ◌≤◌, ℕ, length, IsListedAt}
use Rattle.palm_store.proofs.lookup.directory.index_of.Given as goal

abbrev pub invariant-loop-directory : goal.invariant-loop-directory
invariant-loop-directory l = (k : ℕ) × (l.index ≤ k) × IsListedAt l.fn.heap.bytes l.db.0 k

abbrev pub decreases-loop-directory : goal.decreases-loop-directory
decreases-loop-directory l = length l.directory / 4 - l.index
