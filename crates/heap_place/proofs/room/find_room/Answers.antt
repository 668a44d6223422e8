-- The walk finds a run with the room, or has passed all chunks and found none.
use Rattle.heap_place.proofs.Laws.{◌+◌, ◌++◌, ◌-◌, sym, subst, arith, IsRoom, Searched, walked_misses, search_start, search_there, search_fits, search_size, search_more, search_found, search_none}
use Rattle.heap_place.proofs.room.find_room.Goals as goal

pub loop-at-init : goal.loop-at-init
loop-at-init c =
    let image = c.args.region.now.bytes in
    subst (λ n. Searched image c.args.size n 0) (sym c.area_start-at.ensures) (search_start _ _ c.requires.some_size (omega arith))

pub at_with_size-header-requires : goal.at_with_size-header-requires
at_with_size-header-requires c =
    let heap = c.requires.heap in let s = c.loop-at.invariant in
    record { chunk = search_there heap.accepted s (omega arith); small = omega arith; misses = walked_misses c.args.region.now (s.front ++ s.run) c.loop-at.at heap.accepted heap.lent s.spelled (omega arith) }

pub run_with-run_size-requires : goal.run_with-run_size-requires
run_with-run_size-requires c =
    let fits = search_fits c.loop-at.invariant in
    let size = search_size c.loop-at.invariant c.at_with_size-header.ensures.header in omega arith

pub overflow_sub-result : goal.overflow_sub-result
overflow_sub-result c =
    let size = search_size c.loop-at.invariant c.at_with_size-header.ensures.header in omega arith

pub returns-then-run_size-size-clause-room : goal.returns-then-run_size-size-clause-room
returns-then-run_size-size-clause-room c =
    let image = c.args.region.now.bytes in
    let found = search_found c.requires.heap.accepted c.loop-at.invariant c.at_with_size-header.ensures.header in
    subst (λ n. IsRoom image (c.loop-at.at + n - c.run_with-run_size.result) c.run_with-run_size.result) (sym c.at_with_size-header.ensures.size)
    (rw (← c.run_with-run_size.ensures) at found)

pub loop-at-preserved : goal.loop-at-preserved
loop-at-preserved c =
    let image = c.args.region.now.bytes in let small = c.if-run_size-size.false in
    let more = search_more c.loop-at.invariant c.at_with_size-header.ensures.header (rw c.run_with-run_size.ensures at small) in
    subst (λ n. Searched image c.args.size (c.loop-at.at + n) c.run_with-run_size.result) (sym c.at_with_size-header.ensures.size)
    (rw (← c.run_with-run_size.ensures) at more)

pub returns-clause-none : goal.returns-clause-none
returns-clause-none c = search_none c.requires.heap.accepted c.requires.some_size c.loop-at.invariant (omega arith)
