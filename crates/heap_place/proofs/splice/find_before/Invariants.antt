-- The chunk is not among those of its list that were passed.
use Rattle.heap_place.proofs.Words.{Looking}
use Rattle.heap_place.proofs.splice.find_before.Given as goal

abbrev pub invariant-loop : goal.invariant-loop
invariant-loop l = Looking l.fn.region.bytes l.fn.lists l.fn.class l.here l.fn.at
