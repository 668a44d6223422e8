-- A chunk that moved had a run to go to, and no table moves.
use Rattle.heap_compact.proofs.Laws.{had_run, kept_space}
use Rattle.heap_compact.proofs.space.Space.relocate.Goals as goal

pub returns-clause-had_run : goal.returns-clause-had_run
returns-clause-had_run c =
    had_run _ _ _ _ _
    (rw c.self.view_is at c.relocate.ensures.moved)

pub invariant_of-self : goal.invariant_of-self
invariant_of-self c =
    kept_space c.relocate.ensures.heap c.relocate.ensures.lists c.relocate.ensures.frame c.self.invariant.tables
