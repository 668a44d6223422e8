-- What was found in the region is so in the heap's value.
use Rattle.std.proofs.lemmas.Option.{IfSome_then}
use Rattle.mem_manager.proofs.Laws.{owner_viewed, some_viewed, lock_viewed, unlocked_here}
use Rattle.mem_manager.proofs.heap.Heap.sys_chunk.Goals as goal

pub returns-clause-owner : goal.returns-clause-owner
returns-clause-owner c =
    IfSome_then c.named.result c.named.ensures.found
    (λ found f. owner_viewed c.self.view_is c.self.invariant.heap f)

pub returns-clause-lock : goal.returns-clause-lock
returns-clause-lock c = IfSome_then c.named.result c.named.ensures.found (λ found f live is. lock_viewed c.self.inside.space c.args.self.now c.args.name.0 found live c.self.view_is c.self.invariant.heap.accepted f is)

pub returns-clause-there : goal.returns-clause-there
returns-clause-there c =
    IfSome_then c.named.result c.named.ensures.found
    (λ found f. some_viewed c.self.view_is c.self.invariant.heap f)

pub returns-clause-unlocked : goal.returns-clause-unlocked
returns-clause-unlocked c =
    IfSome_then c.named.result c.named.ensures.found
    (λ found f. unlocked_here c.self.view_is c.self.invariant.heap f)
