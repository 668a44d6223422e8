-- `refusal_of_lent` returns the first refusal of a chunk whose bytes are out, by the laws of
-- PointerLaws.
use Rattle.palmheap_c.proofs.PointerLaws.{fixed_first, lent_first, most_first}
use Rattle.palmheap_c.proofs.pointers.refusal_of_lent.Goals as goal

pub returns-then-locks-eq-FIXED_LOCK-clause-some : goal.returns-then-locks-eq-FIXED_LOCK-clause-some
returns-then-locks-eq-FIXED_LOCK-clause-some c =
    fixed_first c.args.store.now c.args.store.now c.args.store.now c.args.name c.in-Ok.locks
    c.requires c.in-Ok.ensures c.if-locks-eq-FIXED_LOCK.true

pub returns-then-locks-eq-MOST_LOCKS-clause-some : goal.returns-then-locks-eq-MOST_LOCKS-clause-some
returns-then-locks-eq-MOST_LOCKS-clause-some c =
    most_first c.args.store.now c.args.store.now c.args.store.now c.args.name c.in-Ok.locks
    c.requires c.in-Ok.ensures c.if-locks-eq-FIXED_LOCK.false c.if-locks-eq-MOST_LOCKS.true

pub returns-else-locks-eq-MOST_LOCKS-clause-some : goal.returns-else-locks-eq-MOST_LOCKS-clause-some
returns-else-locks-eq-MOST_LOCKS-clause-some c =
    lent_first c.args.store.now c.args.store.now c.args.store.now c.args.name c.in-Ok.locks
    c.requires c.in-Ok.ensures c.if-locks-eq-FIXED_LOCK.false c.if-locks-eq-MOST_LOCKS.false
