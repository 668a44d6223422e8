-- The loop of `keeps_ids` keeps its invariant: the IDs before the index are those in the file.
use Rattle.std.proofs.Common.{◌≡◌, ℕ, ◌<◌, get_or}
use Rattle.heap_model.specs.Database.{database_in}
use Rattle.heap_model.specs.Store.{unique_ids}
use Rattle.canonical_file.proofs.entry_changes.keeps_ids.Given as goal

abbrev pub invariant-loop-index : goal.invariant-loop-index
invariant-loop-index g l =
    (k : ℕ) → k < l.index → get_or l.ids k 0 ≡ get_or (unique_ids (database_in l.file)) k 0
