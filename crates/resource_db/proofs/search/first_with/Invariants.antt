-- None of the resources that were passed has the type and the ID.
use Rattle.resource_db.proofs.Words.{HasTypeAndId, NoneUntil}
use Rattle.resource_db.proofs.search.first_with.Given as goal

abbrev pub invariant-loop-index : goal.invariant-loop-index
invariant-loop-index l = NoneUntil l.resources.entries 0 l.index (HasTypeAndId l.kind l.id)
