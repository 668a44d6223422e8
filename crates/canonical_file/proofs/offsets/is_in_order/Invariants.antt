-- The loop of `is_in_order` keeps its invariant: all offsets rise exactly if those that are left
-- do.
use Rattle.std.proofs.Common.{drop}
use Rattle.std.specs.Prelude.{◌↔◌}
use Rattle.heap_model.specs.Files.{offsets_in}
use Rattle.canonical_file.specs.Changes.{AreRising}
use Rattle.canonical_file.proofs.offsets.is_in_order.Given as goal

-- all offsets rise exactly if those that are left do
abbrev pub invariant-loop-rank : goal.invariant-loop-rank
invariant-loop-rank g l =
    AreRising 0 (offsets_in l.file) ↔ AreRising l.low (drop l.rank (offsets_in l.file))
