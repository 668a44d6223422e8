-- The loop of `note_owners` keeps its invariant: the slots that chunks before the offset name have
-- their owners.
use Rattle.heap_check.proofs.Laws.{HasPassed, NotesSlots}
use Rattle.std.proofs.Common.{◌≡◌, ◌-◌, length}
use Rattle.heap_check.proofs.owners.note_owners.Given as goal

abbrev pub invariant-loop-at : goal.invariant-loop-at
invariant-loop-at l = record {
  passed : HasPassed l.region.bytes (NotesSlots l.region.bytes l.owners) l.at;
  room : length l.owners ≡ length l.fn.owners;
}

abbrev pub decreases-loop-at : goal.decreases-loop-at
decreases-loop-at l = length l.region.bytes - l.at
