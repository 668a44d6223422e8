-- When the walk ends, every free chunk is in its list.
use Rattle.heap_place.proofs.GatherLaws.{gathered}
use Rattle.heap_place.proofs.gather.gather.Goals as goal

pub returns-clause-lists : goal.returns-clause-lists
returns-clause-lists c = gathered c.loop-at.invariant.0
