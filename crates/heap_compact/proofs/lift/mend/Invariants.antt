-- The chunks before `at` are mended.
use Rattle.heap_compact.proofs.Words.{◌-◌, ◌≡◌, Walks}
use Rattle.heap_compact.proofs.lift.mend.Given as goal

abbrev pub invariant-loop-at : goal.invariant-loop-at
invariant-loop-at l = Walks l.initial.region.bytes l.region.bytes l.gap l.start l.at l.end × (l.region.slid ≡ l.initial.region.slid) × (l.region.lents ≡ l.initial.region.lents)

abbrev pub decreases-loop-at : goal.decreases-loop-at
decreases-loop-at l = l.end - l.at
