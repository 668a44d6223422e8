-- No number was in the set so far.
use Rattle.bit_sets.specs.Sets.{HasNoneBetween}
use Rattle.bit_sets.proofs.sets.first_of_byte.Given as goal

abbrev pub invariant-loop-number : goal.invariant-loop-number
invariant-loop-number l = HasNoneBetween l.set l.fn.from l.number
