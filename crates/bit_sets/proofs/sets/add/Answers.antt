use Rattle.std.proofs.Common.{refl, arith}
use Rattle.bit_sets.proofs.SetLaws.{number_added}
use Rattle.bit_sets.proofs.sets.add.Goals as goal

pub returns-clause-adds : goal.returns-clause-adds
returns-clause-adds c = number_added c.args.set.now _ c.args.number (omega arith) refl
