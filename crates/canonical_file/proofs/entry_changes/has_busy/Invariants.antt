-- The loop of `has_busy` keeps its invariant: no entry before the index is busy.
use Rattle.std.proofs.Common.{ℕ, ◌<◌}
use Rattle.heap_model.specs.Database.{entry_in}
use Rattle.canonical_file.specs.Changes.{IsIdle}
use Rattle.canonical_file.proofs.entry_changes.has_busy.Given as goal

abbrev pub invariant-loop-index : goal.invariant-loop-index
invariant-loop-index g l = (k : ℕ) → k < l.index → IsIdle (entry_in l.file k)
