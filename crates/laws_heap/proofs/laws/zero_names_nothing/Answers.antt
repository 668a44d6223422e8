use Rattle.laws_heap.proofs.Meanings.{held-zero}
use Rattle.laws_heap.proofs.laws.zero_names_nothing.Goals as goal

pub returns : goal.returns
returns c = held-zero
