use Rattle.laws_heap.proofs.FreeCounts.{free_alike}
use Rattle.laws_heap.proofs.laws.held_tells_free.Goals as goal

pub returns : goal.returns
returns c = free_alike
