-- The loop of `first_marked` keeps its invariant: the slots before this number hold bodies.
use Rattle.heap_check.specs.Chained.{HeldBefore}
use Rattle.heap_check.proofs.chained.first_marked.Given as goal

abbrev pub invariant-loop-number : goal.invariant-loop-number
invariant-loop-number l = HeldBefore l.region.bytes l.number
