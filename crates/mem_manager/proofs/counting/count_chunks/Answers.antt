-- The counts go on by a chunk more, and no sum overflows.
use Rattle.mem_manager.proofs.Laws.{◌+◌, refl, sym, subst, arith, Passed, passed_start, passed_there, passed_size, passed_all, walked_misses, AreCounted, counted_within, free_fits, counted_more}
use Rattle.mem_manager.proofs.counting.count_chunks.Goals as goal

pub at_with_size-header-requires-clause-chunk : goal.at_with_size-header-requires-clause-chunk
at_with_size-header-requires-clause-chunk c =
    let chunk = passed_there c.args.region.now.bytes (AreCounted c.loop-at.counts) c.loop-at.at
    c.requires.heap.accepted c.loop-at.invariant (omega arith) in
    record { chunk = chunk.0; spelled = chunk.1 }

pub at_with_size-header-requires-clause-misses : goal.at_with_size-header-requires-clause-misses
at_with_size-header-requires-clause-misses c = walked_misses c.args.region.now c.loop-at.invariant.front c.loop-at.at c.requires.heap.accepted c.requires.heap.lent c.loop-at.invariant.spelled (omega arith)

pub with-counts-requires : goal.with-counts-requires
with-counts-requires c =
    let within = counted_within c.loop-at.counts c.loop-at.invariant in
    let size = passed_size c.args.region.now.bytes c.loop-at.at c.at_with_size-header.result.0
    c.at_with_size-header.ensures.header in
    let inside = size.1 in let most = c.requires.heap.accepted.1.tiles.head.most in
    let free = free_fits c.at_with_size-header.result.0 in omega arith

pub loop-at-preserved : goal.loop-at-preserved
loop-at-preserved c =
    subst (λ n. Passed c.args.region.now.bytes (AreCounted c.with-counts.result) (c.loop-at.at + n))
    (sym c.at_with_size-header.ensures.size)
    (counted_more c.loop-at.counts c.with-counts.result c.loop-at.invariant c.at_with_size-header.ensures.header c.with-counts.ensures.movable c.with-counts.ensures.fixed c.with-counts.ensures.free)

pub loop-at-init : goal.loop-at-init
loop-at-init c = rw (← c.area_start-at.ensures) at (passed_start c.args.region.now.bytes (AreCounted (record { movable = 0; fixed = 0; free = 0 })) c.requires.heap.accepted (record { movable = refl; fixed = refl; free = refl }))

pub returns : goal.returns
returns c =
    let all = passed_all c.args.region.now.bytes (AreCounted c.loop-at.counts) c.loop-at.at
    c.requires.heap.accepted c.loop-at.invariant (omega arith) in
    record { size = c.len-size.ensures; slots = c.slots_total.ensures; movable = all.movable; fixed = all.fixed; free = all.free }
