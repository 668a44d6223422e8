-- No number was in the set so far.
use Rattle.std.proofs.Common.{◌*◌}
use Rattle.bit_sets.specs.Sets.{HasNoneBetween}
use Rattle.bit_sets.proofs.sets.first_from.Given as goal

abbrev pub invariant-loop-index : goal.invariant-loop-index
invariant-loop-index l = HasNoneBetween l.set l.fn.from (8 * l.index)
