use Rattle.laws_heap.proofs.Accepted.{Decides-accepted}
use Rattle.laws_heap.proofs.laws.acceptance_is_decided.Goals as goal

pub returns : goal.returns
returns c image = ((Decides-accepted image).0, (Decides-accepted image).1)
