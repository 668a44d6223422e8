use Rattle.std.proofs.Common.{refl, arith}
use Rattle.bit_sets.proofs.SetLaws.{none_in_zeros}
use Rattle.fresh_ids.proofs.StepLaws.{first_within}
use Rattle.fresh_ids.proofs.fresh.first_near.Goals as goal

pub put_taken-requires-clause-empty : goal.put_taken-requires-clause-empty
put_taken-requires-clause-empty c = none_in_zeros 128 0 refl

pub returns-then-steps-clause-first : goal.returns-then-steps-clause-first
returns-then-steps-clause-first c = first_within c.args.body.now c.put_taken.new.taken c.args.seed c.first_missing-steps.result c.put_taken.ensures c.first_missing-steps.ensures (omega arith)
