use Rattle.std.proofs.Common.{ℕ, ◌<◌}
use Rattle.heap_model.specs.Database.{entry_in}
use Rattle.heap_model.specs.ResourceSteps.{HasTypeAndId}
use Rattle.file_commands.proofs.wanted.first_resource.Given as goal

-- none of the entries that were passed is a resource of this type and id
abbrev pub invariant-loop-index : goal.invariant-loop-index
invariant-loop-index l = (other : ℕ) → other < l.index → HasTypeAndId l.kind l.id (entry_in l.file other) → ⊥
