use Rattle.std.proofs.Common.{refl, arith}
use Rattle.bit_sets.proofs.SetLaws.{none_in_zeros}
use Rattle.fresh_ids.proofs.StepLaws.{first_of_all}
use Rattle.fresh_ids.proofs.fresh.first_free.Goals as goal

pub put_taken-requires-clause-empty : goal.put_taken-requires-clause-empty
put_taken-requires-clause-empty c = none_in_zeros 8192 0 refl

pub returns-clause-below : goal.returns-clause-below
returns-clause-below c = (first_of_all c.args.body.now c.put_taken.new.taken c.args.seed c.first_missing.result c.requires.seed c.requires.few (omega arith) c.put_taken.ensures c.first_missing.ensures).0

pub returns-clause-first : goal.returns-clause-first
returns-clause-first c = (first_of_all c.args.body.now c.put_taken.new.taken c.args.seed c.first_missing.result c.requires.seed c.requires.few (omega arith) c.put_taken.ensures c.first_missing.ensures).1
