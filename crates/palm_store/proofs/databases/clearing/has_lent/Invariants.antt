-- None of the slots that were passed has a chunk that is lent.
use Rattle.palm_store.proofs.Words.{ℕ, ◌<◌, get_or, IsLent, named_under}
use Rattle.palm_store.proofs.databases.clearing.has_lent.Given as goal

abbrev pub invariant-loop-index : goal.invariant-loop-index
invariant-loop-index l = (k : ℕ) → k < l.index → IsLent l.heap (get_or (named_under l.heap.bytes l.fn.opened.db.0) k 0) → ⊥
