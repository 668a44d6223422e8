-- The walk comes to the fixed chunk, or passes all chunks and finds none.
use Rattle.heap_place.proofs.Laws.{◌+◌, sym, subst, ◌∙◌, arith, NoneFixedAs, Passed, passed_chunk, passed_misses, passed_all, fixed_found, fixed_there, fixed_passed}
use Rattle.heap_place.proofs.walks.find_fixed.Goals as goal

pub at_with_size-header-requires : goal.at_with_size-header-requires
at_with_size-header-requires c =
    let heap = c.requires.heap in let p = c.loop-at.invariant in
    record { chunk = passed_chunk heap.accepted p (omega arith); small = omega arith; misses = passed_misses heap p (omega arith) }

pub returns-in-Some : goal.returns-in-Some
returns-in-Some c =
    let header = c.at_with_size-header.ensures.header in
    let is = sym c.as_fixed.ensures ∙ c.in-Some.is in
    record { found = fixed_found _ _ c.requires.heap.accepted c.loop-at.invariant header is; there = fixed_there _ header is; none = tt }

pub loop-at-preserved : goal.loop-at-preserved
loop-at-preserved c =
    subst (λ n. Passed c.args.region.now.bytes (NoneFixedAs c.args.region.now.bytes c.args.name.0) (c.loop-at.at + n)) (sym c.at_with_size-header.ensures.size)
    (fixed_passed _ c.loop-at.invariant c.at_with_size-header.ensures.header (sym c.as_fixed.ensures ∙ c.in_default.is))

pub returns-clause-none : goal.returns-clause-none
returns-clause-none c = passed_all _ _ _ c.requires.heap.accepted c.loop-at.invariant (omega arith)
