use Rattle.fresh_ids.specs.Steps.{HasTaken}
use Rattle.fresh_ids.proofs.fresh.put_taken.Given as goal

abbrev pub invariant-loop-index : goal.invariant-loop-index
invariant-loop-index l = HasTaken l.body l.seed l.taken l.index
