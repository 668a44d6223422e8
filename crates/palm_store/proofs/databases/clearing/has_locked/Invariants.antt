-- None of the slots that were passed has a locked chunk.
use Rattle.palm_store.proofs.Words.{ℕ, ◌<◌, get_or, callers_map, Of, IsLocked, named_under}
use Rattle.palm_store.proofs.databases.clearing.has_locked.Given as goal

abbrev pub invariant-loop-index : goal.invariant-loop-index
invariant-loop-index l = (k : ℕ) → k < l.index → Of (callers_map l.heap.bytes (get_or (named_under l.heap.bytes l.fn.opened.db.0) k 0)) IsLocked → ⊥
