-- Packing a stretch moves no table.
use Rattle.heap_compact.proofs.KeptLaws.{kept_space}
use Rattle.heap_compact.proofs.space.Space.pack_stretch.Goals as goal

pub invariant_of-self : goal.invariant_of-self
invariant_of-self c =
    kept_space c.pack_stretch.ensures.heap c.pack_stretch.ensures.lists c.pack_stretch.ensures.frame c.self.invariant.tables
