-- The loop of `match_names` keeps its invariant: the slots that chunks before the offset name have
-- no mark any more.
use Rattle.heap_check.proofs.Laws.{HasPassed, NotesNames}
use Rattle.std.proofs.Common.{◌≡◌, ◌-◌, length}
use Rattle.heap_check.proofs.chained.match_names.Given as goal

abbrev pub invariant-loop-at : goal.invariant-loop-at
invariant-loop-at l = record {
  passed : HasPassed l.region.bytes (NotesNames l.region.bytes l.names l.marks) l.at;
  room : length l.marks ≡ length l.fn.marks;
}

abbrev pub decreases-loop-at : goal.decreases-loop-at
decreases-loop-at l = length l.region.bytes - l.at
