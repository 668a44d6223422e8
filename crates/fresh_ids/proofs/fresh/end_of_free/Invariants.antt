use Rattle.fresh_ids.specs.Steps.{IsEndBefore}
use Rattle.fresh_ids.proofs.fresh.end_of_free.Given as goal

abbrev pub invariant-loop-index : goal.invariant-loop-index
invariant-loop-index l = IsEndBefore l.body l.first l.index l.end
