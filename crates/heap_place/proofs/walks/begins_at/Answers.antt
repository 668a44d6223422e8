-- The walk comes to the chunk, or passes all chunks and begins none there.
use Rattle.heap_place.proofs.Laws.{◌+◌, sym, subst, arith, Misses, NoneBeginsAt, Passed, passed_chunk, passed_misses, passed_all, begins_passed}
use Rattle.heap_place.proofs.walks.begins_at.Goals as goal

pub at_with_size-taken-requires : goal.at_with_size-taken-requires
at_with_size-taken-requires c =
    let heap = c.requires.heap in let p = c.loop-at.invariant in
    record { chunk = passed_chunk heap.accepted p (omega arith); small = omega arith; misses = passed_misses heap p (omega arith) }

pub loop-at-preserved : goal.loop-at-preserved
loop-at-preserved c =
    subst (λ n. Passed c.args.region.now.bytes (NoneBeginsAt c.args.region.now.bytes c.args.there) (c.loop-at.at + n)) (sym c.at_with_size-taken.ensures.size)
    (begins_passed _ c.loop-at.invariant c.at_with_size-taken.ensures.header c.if-at-there.false)

pub returns-then-at-there-clause-begins : goal.returns-then-at-there-clause-begins
returns-then-at-there-clause-begins c =
    subst (λ n. Misses c.args.region.now.lents n 8) c.if-at-there.true (passed_misses c.requires.heap c.loop-at.invariant (omega arith))

pub returns-clause-none : goal.returns-clause-none
returns-clause-none c = passed_all _ _ _ c.requires.heap.accepted c.loop-at.invariant (omega arith)
