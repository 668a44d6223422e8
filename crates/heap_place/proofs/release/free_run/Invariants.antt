-- The free chunks from `at` on take `size` bytes so far.
use Rattle.heap_place.proofs.Words.{◌-◌, length, RunsUpTo, IsBound}
use Rattle.heap_place.proofs.release.free_run.Given as goal

abbrev pub invariant-loop-size : goal.invariant-loop-size
invariant-loop-size l = RunsUpTo l.region.bytes l.at l.end l.size × IsBound l.region.bytes l.end

abbrev pub decreases-loop-size : goal.decreases-loop-size
decreases-loop-size l = length l.region.bytes - l.end
