use Rattle.std.proofs.Common.{◌-◌}
use Rattle.heap_model.specs.UniqueIds.{greatest_id}
use Rattle.file_ids.proofs.FreshLaws.{Passes, steps_to}
use Rattle.file_ids.proofs.fresh.first_free.Given as goal

abbrev pub invariant-loop-id : goal.invariant-loop-id
invariant-loop-id l = Passes l.taken l.seed l.id

abbrev pub decreases-loop-id : goal.decreases-loop-id
decreases-loop-id l = greatest_id - steps_to l.seed l.id
