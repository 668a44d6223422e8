-- The walk sums the sizes of free chunks up to the first live one.
use Rattle.heap_place.proofs.Laws.{arith, from_bound, from_running, run_start, run_inside, run_more, run_done, bound_misses, bound_on}
use Rattle.heap_place.proofs.release.free_run.Goals as goal

pub loop-size-init : goal.loop-size-init
loop-size-init c = (run_start _ c.requires.heap.accepted c.free_size-size.ensures, c.requires.bound)

pub overflow_add-end : goal.overflow_add-end
overflow_add-end c = let r = run_inside c.requires.bound c.loop-size.invariant.0 in omega arith

pub loop-size-preserved : goal.loop-size-preserved
loop-size-preserved c = (run_more c.loop-size.invariant.0 (omega arith) c.free_size-size-in-loop-size.ensures, bound_on c.requires.heap.accepted c.loop-size.invariant.1 c.loop-size.invariant.0.there (omega arith))

pub overflow_sub-result : goal.overflow_sub-result
overflow_sub-result c = omega arith

pub returns : goal.returns
returns c = run_done c.loop-size.invariant.0 (omega arith)

pub loop-size-smaller : goal.loop-size-smaller
loop-size-smaller c = let r = run_inside c.requires.bound c.loop-size.invariant.0 in omega arith

pub free_size-size-requires : goal.free_size-size-requires
free_size-size-requires c =
    record { small = omega arith; chunks = from_bound c.requires.heap.accepted c.requires.bound; misses = bound_misses c.requires.heap c.requires.bound }

pub free_size-size-requires-in-loop-size : goal.free_size-size-requires-in-loop-size
free_size-size-requires-in-loop-size c =
    let h = c.requires.heap.accepted in let i = c.loop-size.invariant in
    record { small = omega arith; chunks = from_running c.requires.bound i.0 (omega arith); misses = bound_misses c.requires.heap (bound_on h i.1 i.0.there (omega arith)) }
