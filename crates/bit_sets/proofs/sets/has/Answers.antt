use Rattle.std.proofs.Common.{◌/◌, ◌%◌, arith, get_or}
use Rattle.bit_sets.proofs.SetLaws.{bit_tested}
use Rattle.bit_sets.proofs.sets.has.Goals as goal

pub returns : goal.returns
returns c = bit_tested (get_or c.args.set.now (c.args.number / 8) 0) (c.args.number % 8) (omega arith)
