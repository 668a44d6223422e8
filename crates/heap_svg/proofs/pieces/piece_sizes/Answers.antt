-- `piece_sizes` returns the sizes of the free pieces of an accepted heap, by the laws of PieceLaws.
use Rattle.heap_svg.proofs.Laws.{ℕ, ◌+◌, subst, sym, arith, read_heap, HasPassed, passed_there, passed_size, passed_all, free_size_by, HaveSizes, sizes_start, sizes_small, sizes_step, sizes_end}
use Rattle.heap_svg.proofs.pieces.piece_sizes.Goals as goal

pub loop-at-init : goal.loop-at-init
loop-at-init g c = sizes_start _ _ _ c.requires.accepted c.area_start-at.ensures
    c.in_ok-pieces.ensures.met c.in_ok-pieces.ensures.run

pub at_with_size-header-requires-clause-chunk : goal.at_with_size-header-requires-clause-chunk
at_with_size-header-requires-clause-chunk g c =
    passed_there _ _ _ (read_heap _ c.requires.accepted).tiles c.loop-at.invariant (omega arith)

pub add-requires : goal.add-requires
add-requires g c =
    let small = sizes_small _ _ _ c.loop-at.invariant in
    let inside = (passed_size _ _ _ c.at_with_size-header.ensures.header).1 in
    let most = c.requires.accepted.1.tiles.head.most in
    let within = free_size_by c.at_with_size-header.result.0 in
    omega arith

pub loop-at-preserved : goal.loop-at-preserved
loop-at-preserved g c =
    let image = c.args.region.now.bytes in
    subst (λ (n : ℕ). HasPassed image (HaveSizes c.add.new.self) (c.loop-at.at + n))
    (sym c.at_with_size-header.ensures.size) (sizes_step _ _ _ _ _ c.loop-at.invariant
    c.at_with_size-header.ensures.header c.in_ok-add.ensures.added)

pub returns-clause-pieces : goal.returns-clause-pieces
returns-clause-pieces g c =
    let len = c.len.ensures in
    sizes_end c.args.region.now.bytes c.loop-at.pieces c.end.new.self.met.items
    c.in_ok-end.ensures.ended.met (passed_all c.args.region.now.bytes
    (HaveSizes c.loop-at.pieces) c.loop-at.at (omega arith) c.loop-at.invariant).holds
