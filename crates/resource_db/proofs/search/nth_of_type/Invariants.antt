-- `passed` is the count of the resources of the type that were passed, and is at most `nth`.
use Rattle.std.proofs.Common.{◌≡◌, ◌≤◌, take, count_by}
use Rattle.heap_model.specs.ResourceSteps.{has_type}
use Rattle.resource_db.proofs.search.nth_of_type.Given as goal

abbrev pub invariant-loop-index : goal.invariant-loop-index
invariant-loop-index l = (l.passed ≡ count_by (has_type l.kind) (take l.index l.resources.entries)) × (l.passed ≤ l.nth)
