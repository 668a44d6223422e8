-- The last chunk that stays, of those before `here`, ends at `start`.
use Rattle.heap_compact.proofs.Words.{◌-◌, SeenUpTo}
use Rattle.heap_compact.proofs.stretch.stretch_around.Given as goal

abbrev pub invariant-loop-here : goal.invariant-loop-here
invariant-loop-here l = SeenUpTo l.region.bytes l.at l.start l.here

abbrev pub decreases-loop-here : goal.decreases-loop-here
decreases-loop-here l = l.end - l.here
