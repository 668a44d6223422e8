-- The free bytes of the stretch's chunks before `at` are summed.
use Rattle.heap_compact.proofs.Words.{◌-◌, SumsUpTo}
use Rattle.heap_compact.proofs.stretch.room_of_stretch.Given as goal

abbrev pub invariant-loop-at : goal.invariant-loop-at
invariant-loop-at l = SumsUpTo l.region.bytes l.stretch l.at l.room

abbrev pub decreases-loop-at : goal.decreases-loop-at
decreases-loop-at l = l.stretch.end - l.at
