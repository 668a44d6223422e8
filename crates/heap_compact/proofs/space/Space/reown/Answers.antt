-- Another owner leaves lists and tables as they are.
use Rattle.heap_compact.proofs.Laws.{lists_kept, kept_space}
use Rattle.heap_compact.proofs.space.Space.reown.Goals as goal

pub invariant_of-self : goal.invariant_of-self
invariant_of-self c =
    kept_space c.reown_at.ensures.heap (lists_kept _ _ _ _ c.reown_at.ensures.keeps c.self.invariant.lists) c.reown_at.ensures.made.frame c.self.invariant.tables
