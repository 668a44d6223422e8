use Rattle.std.proofs.Common.{refl, arith}
use Rattle.bit_sets.proofs.SetLaws.{number_removed}
use Rattle.bit_sets.proofs.sets.remove.Goals as goal

pub returns-clause-removes : goal.returns-clause-removes
returns-clause-removes c = number_removed c.args.set.now _ c.args.number (omega arith) c.requires.there refl
