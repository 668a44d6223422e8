-- The chunks that were passed are counted.
use Rattle.mem_manager.proofs.Words.{◌-◌, length, Passed, AreCounted}
use Rattle.mem_manager.proofs.counting.count_chunks.Given as goal

abbrev pub invariant-loop-at : goal.invariant-loop-at
invariant-loop-at l = Passed l.region.bytes (AreCounted l.counts) l.at

abbrev pub decreases-loop-at : goal.decreases-loop-at
decreases-loop-at l = length l.region.bytes - l.at
