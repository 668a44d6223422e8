use Rattle.std.proofs.Common.{◌+◌, sym, subst, arith, List, ℕ}
use Rattle.fresh_ids.specs.Steps.{HasTaken}
use Rattle.fresh_ids.proofs.StepLaws.{taken_zero, taken_far, taken_near}
use Rattle.fresh_ids.proofs.fresh.put_taken.Goals as goal
use Rattle.fresh_ids.proofs.fresh.put_taken.Goals.{then-id-ne0+then-steps-room, then-id-ne0+else-steps-room, else-id-ne0}

pub loop-index-preserved : goal.loop-index-preserved
loop-index-preserved c = elim c.if-id-ne0.branch [
  | then-id-ne0+then-steps-room w ↦ subst (λ (t : List ℕ). HasTaken c.args.body.now c.args.seed t (c.loop-index.index + 1)) (sym w.taken-is)
      (taken_near c.args.body.now c.loop-index.taken w.add.new.set c.args.seed c.loop-index.index c.record_id-id.result w.steps_to-steps.result c.requires.seed (omega arith) (omega arith) c.record_id-id.ensures.is w.steps_to-steps.ensures.is (omega arith) w.add.ensures.adds c.loop-index.invariant)
  | then-id-ne0+else-steps-room w ↦ subst (λ (t : List ℕ). HasTaken c.args.body.now c.args.seed t (c.loop-index.index + 1)) (sym w.taken-is)
      (taken_far c.args.body.now c.loop-index.taken c.args.seed c.loop-index.index c.record_id-id.result w.steps_to-steps.result c.requires.seed (omega arith) c.record_id-id.ensures.is w.steps_to-steps.ensures.is (omega arith) (omega arith) c.loop-index.invariant)
  | else-id-ne0 w ↦ subst (λ (t : List ℕ). HasTaken c.args.body.now c.args.seed t (c.loop-index.index + 1)) (sym w.taken-is)
      (taken_zero c.args.body.now c.loop-index.taken c.args.seed c.loop-index.index c.record_id-id.result c.requires.seed c.record_id-id.ensures.is (omega arith) c.loop-index.invariant)
]
