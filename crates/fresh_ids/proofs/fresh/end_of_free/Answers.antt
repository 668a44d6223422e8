use Rattle.std.proofs.Common.{subst, arith, ℕ}
use Rattle.fresh_ids.specs.Steps.{IsEndBefore}
use Rattle.fresh_ids.proofs.EndLaws.{end_of_all}
use Rattle.fresh_ids.proofs.fresh.end_of_free.Goals as goal

pub returns : goal.returns
returns c = end_of_all c.args.body.now c.args.first c.loop-index.end (subst (λ (index : ℕ). IsEndBefore c.args.body.now c.args.first index c.loop-index.end) (omega arith) c.loop-index.invariant)
