use Rattle.std.proofs.Common.{◌*◌}
use Rattle.bit_sets.proofs.SetLaws.{HasBelow}
use Rattle.bit_sets.proofs.sets.first_missing.Given as goal

abbrev pub invariant-loop-index : goal.invariant-loop-index
invariant-loop-index l = HasBelow l.set (8 * l.index)
