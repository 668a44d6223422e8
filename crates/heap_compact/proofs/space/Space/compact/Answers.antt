-- All lists are built by packing, and no table moves.
use Rattle.heap_compact.proofs.KeptLaws.{kept_space}
use Rattle.heap_compact.proofs.space.Space.compact.Goals as goal

pub invariant_of-self : goal.invariant_of-self
invariant_of-self c =
    kept_space c.compact.ensures.heap c.compact.ensures.lists c.compact.ensures.packed.frame c.self.invariant.tables
