-- `free_pieces` returns the number of free pieces and the largest, by the laws of PieceLaws.
use Rattle.heap_map.proofs.Laws.{ℕ, ◌+◌, subst, sym, arith, chunks_of, read_heap, HasPassed, passed_there, passed_size, passed_all, HaveMet, met_start, met_small, met_step, free_size_by, all_met_count, all_met_largest}
use Rattle.heap_map.proofs.pieces.free_pieces.Goals as goal

pub loop-at-init : goal.loop-at-init
loop-at-init c = met_start _ _ _ c.requires.accepted c.area_start-at.ensures c.new-pieces.ensures

pub at_with_size-header-requires-clause-chunk : goal.at_with_size-header-requires-clause-chunk
at_with_size-header-requires-clause-chunk c =
    passed_there _ _ _ (read_heap _ c.requires.accepted).tiles c.loop-at.invariant (omega arith)

pub add-requires : goal.add-requires
add-requires c =
    let small = met_small _ _ _ c.loop-at.invariant in
    let few = small.0 in
    let fits = small.1 in
    let size = passed_size _ _ _ c.at_with_size-header.ensures.header in
    let inside = size.1 in
    let most = c.requires.accepted.1.tiles.head.most in
    let within = free_size_by c.at_with_size-header.result.0 in
    record { few = omega arith; fits = omega arith }

pub loop-at-preserved : goal.loop-at-preserved
loop-at-preserved c =
    let image = c.args.region.now.bytes in
    subst (λ (n : ℕ). HasPassed image (HaveMet c.add.new.self) (c.loop-at.at + n))
    (sym c.at_with_size-header.ensures.size)
    (met_step image c.loop-at.pieces c.add.new.self c.loop-at.at c.at_with_size-header.result.0
    c.loop-at.invariant c.at_with_size-header.ensures.header c.add.ensures)

pub end-requires : goal.end-requires
end-requires c =
    let few = (met_small _ _ _ c.loop-at.invariant).0 in
    let inside = c.loop-at.invariant.inside in
    let most = c.requires.accepted.1.tiles.head.most in
    omega arith

pub returns-clause-count : goal.returns-clause-count
returns-clause-count c =
    let len = c.len.ensures in
    all_met_count _ _ _ c.end.ensures (passed_all _ _ _ (omega arith) c.loop-at.invariant).holds

pub returns-clause-largest : goal.returns-clause-largest
returns-clause-largest c =
    let len = c.len.ensures in
    all_met_largest _ _ _ c.end.ensures (passed_all _ _ _ (omega arith) c.loop-at.invariant).holds
