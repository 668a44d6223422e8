-- The loop of `find_bodies` keeps its invariant: the chunks before the offset are counted, and
-- their bodies are marked.
use Rattle.heap_check.proofs.Laws.{HasPassed, CountsBodies}
use Rattle.std.proofs.Common.{◌≡◌, ◌-◌, length}
use Rattle.heap_check.proofs.chained.find_bodies.Given as goal

abbrev pub invariant-loop-at : goal.invariant-loop-at
invariant-loop-at l = record {
  passed : HasPassed l.region.bytes (CountsBodies l.region.bytes l.found l.marks) l.at;
  room : length l.marks ≡ length l.fn.marks;
}

abbrev pub decreases-loop-at : goal.decreases-loop-at
decreases-loop-at l = length l.region.bytes - l.at
