-- None of the databases that were passed is another one with the name.
use Rattle.palm_store.proofs.Words.{◌≡◌, ◌≢◌, ◌*◌, ◌<◌, ℕ, u32_at, name_under}
use Rattle.palm_store.proofs.lookup.name.find_named.Given as goal

abbrev pub invariant-loop-index : goal.invariant-loop-index
invariant-loop-index l = (k : ℕ) → k < l.index → u32_at l.directory (4 * k) ≢ l.db.0 → name_under l.heap.bytes (u32_at l.directory (4 * k)) ≡ l.name → ⊥
