-- `strips_of` returns the strips of an accepted image, by the laws of StripLaws.
use Rattle.heap_svg.proofs.Laws.{ℕ, ◌+◌, ◌∙◌, length, List, subst, sym, arith, read_heap, HasPassed, passed_none, passed_there, passed_size, header_room, Strip, ShowImage, Shown, shown_none, shown_end, shown_step, shown_image, exact_image, ok_maps}
use Rattle.heap_svg.proofs.strips.strips_of.Goals as goal

pub at_with_size-header-requires-clause-chunk : goal.at_with_size-header-requires-clause-chunk
at_with_size-header-requires-clause-chunk g c = passed_there _ _ _
    (read_heap _ c.requires.accepted.heap).tiles c.loop-at.invariant (omega arith)

pub mark_of-requires : goal.mark_of-requires
mark_of-requires g c = header_room _ _ _ _ _ c.requires.accepted.heap c.loop-at.invariant
    c.at_with_size-header.ensures.header c.requires.room

pub loop-at-init : goal.loop-at-init
loop-at-init g c =
    let fits = (read_heap _ c.requires.accepted.heap).tiles.head.a_chunk_fits in
    passed_none c.args.region.now.bytes
    (Shown c.args.region.now.bytes c.args.thin c.in_ok-strips.strips) _ c.area_start-at.ensures
    (omega arith) (shown_none _ _ _ _ c.area_start-at.ensures
    (omega arith) c.in_ok-strips.ensures.whole c.in_ok-strips.ensures.last)

pub add-requires : goal.add-requires
add-requires g c =
    let end = shown_end _ _ _ _ c.loop-at.invariant in
    let inside = (passed_size _ _ _ c.at_with_size-header.ensures.header).1 in
    let takes = c.at_with_size-header.ensures.size in
    let most = c.requires.accepted.heap.1.tiles.head.most in
    omega arith

pub loop-at-preserved : goal.loop-at-preserved
loop-at-preserved g c =
    let image = c.args.region.now.bytes in
    subst (λ (n : ℕ). HasPassed image (Shown image c.args.thin c.add.new.self) (c.loop-at.at + n))
    (sym c.at_with_size-header.ensures.size) (shown_step image c.args.thin c.loop-at.strips
    c.add.new.self c.loop-at.at c.at_with_size-header.result.0 c.mark_of.result
    c.at_with_size-header.result.1 c.requires.accepted.heap c.loop-at.invariant
    c.at_with_size-header.ensures.header (c.mark_of.ensures image c.requires.numbers)
    c.at_with_size-header.ensures.size c.in_ok-add.ensures.added)

pub returns-clause-shown : goal.returns-clause-shown
returns-clause-shown g c =
    let image = c.args.region.now.bytes in
    let len = c.len.ensures in
    let shown =
    shown_image image c.args.thin c.loop-at.strips c.loop-at.at (omega arith) c.loop-at.invariant in
    ok_maps c.done.result
    (λ strips is. subst (λ (ss : List Strip). ShowImage image ss) (sym is) shown) c.done.ensures.all

pub returns-clause-exact : goal.returns-clause-exact
returns-clause-exact g c =
    let image = c.args.region.now.bytes in
    let len = c.len.ensures in
    let exact = exact_image _ _ _ _ (omega arith) c.loop-at.invariant in
    ok_maps c.done.result (λ strips is. is ∙ exact) c.done.ensures.all
