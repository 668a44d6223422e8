-- When the walk ends, the free bytes of all chunks are summed.
use Rattle.heap_place.proofs.Laws.{◌+◌, sym, subst, arith, Passed, HaveFreeBytes, free_by, passed_chunk, passed_misses, passed_size, passed_all, free_fits, free_fits_by, free_passed}
use Rattle.heap_place.proofs.walks.free_bytes.Goals as goal

pub at_with_size-header-requires : goal.at_with_size-header-requires
at_with_size-header-requires c =
    let heap = c.requires.heap in let p = c.loop-at.invariant in
    record { chunk = passed_chunk heap.accepted p (omega arith); small = omega arith; misses = passed_misses heap p (omega arith) }

pub overflow_add-count : goal.overflow_add-count
overflow_add-count c =
    let fits = free_fits c.loop-at.count c.loop-at.invariant in
    let size = passed_size _ _ _ c.at_with_size-header.ensures.header in
    let within = free_fits_by c.at_with_size-header.result.0 in omega arith

pub loop-at-preserved : goal.loop-at-preserved
loop-at-preserved c =
    subst (λ n. Passed c.args.region.now.bytes (HaveFreeBytes (c.loop-at.count + n)) (c.loop-at.at + c.at_with_size-header.result.1)) (sym c.size_if_free-count.ensures)
    (subst (λ n. Passed c.args.region.now.bytes (HaveFreeBytes (c.loop-at.count + free_by c.at_with_size-header.result.0)) (c.loop-at.at + n)) (sym c.at_with_size-header.ensures.size)
    (free_passed c.loop-at.count c.loop-at.invariant c.at_with_size-header.ensures.header))

pub returns : goal.returns
returns c = sym (passed_all _ _ _ c.requires.heap.accepted c.loop-at.invariant (omega arith))
