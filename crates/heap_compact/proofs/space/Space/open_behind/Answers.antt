-- Opening room moves no table.
use Rattle.heap_compact.proofs.KeptLaws.{kept_space}
use Rattle.heap_compact.proofs.space.Space.open_behind.Goals as goal

pub invariant_of-self : goal.invariant_of-self
invariant_of-self c =
    kept_space c.open_in.ensures.heap c.open_in.ensures.lists c.open_in.ensures.frame c.self.invariant.tables
