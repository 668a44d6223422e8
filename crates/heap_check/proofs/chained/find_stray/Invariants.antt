-- The loop of `find_stray` keeps its invariant: the first stray before the offset is found, and the
-- marks of the bodies there are taken away.
use Rattle.heap_check.proofs.Laws.{HasPassed, NotesStrays}
use Rattle.std.proofs.Common.{◌≡◌, ◌-◌, length}
use Rattle.heap_check.proofs.chained.find_stray.Given as goal

abbrev pub invariant-loop-at : goal.invariant-loop-at
invariant-loop-at l = record {
  passed : HasPassed l.region.bytes (NotesStrays l.region.bytes l.first l.marks) l.at;
  room : length l.marks ≡ length l.fn.marks;
}

abbrev pub decreases-loop-at : goal.decreases-loop-at
decreases-loop-at l = length l.region.bytes - l.at
