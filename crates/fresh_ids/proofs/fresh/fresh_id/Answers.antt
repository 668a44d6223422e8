use Rattle.std.proofs.Common.{sym, subst, bit_and}
use Rattle.std.proofs.lemmas.Nat.{and_mask}
use Rattle.fresh_ids.specs.Steps.{IsFirstFree}
use Rattle.fresh_ids.proofs.StepLaws.{whole_spelled, fresh_here}
use Rattle.fresh_ids.proofs.fresh.fresh_id.Goals as goal
use Rattle.fresh_ids.proofs.fresh.fresh_id.Goals.{in-Some, in-None}

pub seed-seed-requires : goal.seed-seed-requires
seed-seed-requires c = (whole_spelled c.args.body.now c.requires.spelled).header

pub first_near-requires-clause-whole : goal.first_near-requires-clause-whole
first_near-requires-clause-whole c = whole_spelled c.args.body.now c.requires.spelled

pub first_free-steps-requires-clause-whole : goal.first_free-steps-requires-clause-whole
first_free-steps-requires-clause-whole c = whole_spelled c.args.body.now c.requires.spelled

pub returns-clause-fresh : goal.returns-clause-fresh
returns-clause-fresh c = fresh_here c.args.body.now c.seed-seed.result (bit_and c.seed-seed.result 16777215) c.match-first_near.steps c.id_behind.result c.seed-seed.ensures (and_mask c.seed-seed.result 24)
    (elim c.match-first_near.branch [
      | in-Some w ↦ subst (IsFirstFree c.args.body.now (bit_and c.seed-seed.result 16777215)) (sym w.steps-is) w.in-Some.ensures.first
      | in-None w ↦ subst (IsFirstFree c.args.body.now (bit_and c.seed-seed.result 16777215)) (sym w.steps-is) w.first_free-steps.ensures.first
    ])
    c.id_behind.ensures
