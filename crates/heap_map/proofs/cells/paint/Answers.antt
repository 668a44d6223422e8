-- `paint` fills clear cells with the chunks of an accepted image, by the laws of CellLaws.
use Rattle.heap_map.proofs.Laws.{◌≡◌, ◌-◌, ◌*◌, ◌≤◌, ◌∙◌, ℕ, ◌+◌, length, ap, subst, sym, arith, rules, read_heap, HasPassed, passed_none, passed_there, passed_size, passed_all, HoldChunks, hold_none, hold_step, hold_start, header_room, free_few}
use Rattle.heap_map.proofs.cells.paint.Goals as goal

pub loop-at-init : goal.loop-at-init
loop-at-init c =
    let fits = (read_heap _ c.requires.accepted.heap).tiles.head.a_chunk_fits in
    record {
      passed = passed_none c.args.region.now.bytes
          (HoldChunks c.args.region.now.bytes c.args.cells.now) _ c.area_start-start.ensures
          (omega arith) (hold_none c.args.region.now.bytes c.args.cells.now c.requires.clear);
      size = search rules;
      count = search rules;
    }

pub at_with_size-header-requires-clause-chunk : goal.at_with_size-header-requires-clause-chunk
at_with_size-header-requires-clause-chunk c = passed_there c.args.region.now.bytes
    (HoldChunks c.args.region.now.bytes c.loop-at.cells) c.loop-at.at
    (read_heap c.args.region.now.bytes c.requires.accepted.heap).tiles c.loop-at.invariant.passed
    (omega arith)

pub mark_of-requires : goal.mark_of-requires
mark_of-requires c = header_room _ _ _ _ _ c.requires.accepted.heap c.loop-at.invariant.passed
    c.at_with_size-header.ensures.header c.requires.room

pub loop-at-preserved : goal.loop-at-preserved
loop-at-preserved c =
    let image = c.args.region.now.bytes in
    record {
      passed =
          subst (λ (n : ℕ). HasPassed image (HoldChunks image c.add.new.self) (c.loop-at.at + n))
          (sym c.at_with_size-header.ensures.size) (hold_step image c.loop-at.cells c.add.new.self
          c.loop-at.at c.area_start-start.result c.at_with_size-header.result.0 c.mark_of.result
          c.at_with_size-header.result.1 c.area_start-start.ensures c.loop-at.invariant.passed
          c.at_with_size-header.ensures.header (c.mark_of.ensures image c.requires.numbers)
          c.at_with_size-header.ensures.size c.add.ensures);
      size = c.add.ensures.size ∙ c.loop-at.invariant.size;
      count = c.add.ensures.mark_count ∙ c.loop-at.invariant.count;
    }

pub overflow_sub-at : goal.overflow_sub-at
overflow_sub-at c =
    let low = hold_start _ _ _ c.loop-at.invariant.passed in
    let start = c.area_start-start.ensures in
    omega arith

pub add-requires-clause-inside : goal.add-requires-clause-inside
add-requires-clause-inside c =
    let low = hold_start _ _ _ c.loop-at.invariant.passed in
    let start = c.area_start-start.ensures in
    let inside = (passed_size _ _ _ c.at_with_size-header.ensures.header).1 in
    let takes = c.at_with_size-header.ensures.size in
    let enough : length c.args.region.now.bytes - c.area_start-start.result
    ≤ c.args.cells.now.size * length c.args.cells.now.marks.items =
    rw start c.requires.covers.enough in
    let product : c.loop-at.cells.size * length c.loop-at.cells.marks.items
    ≡ c.args.cells.now.size * length c.args.cells.now.marks.items =
    ap (λ n. n * length c.loop-at.cells.marks.items) c.loop-at.invariant.size
    ∙ ap (λ n. c.args.cells.now.size * n) c.loop-at.invariant.count in
    omega arith

pub add-requires-clause-few : goal.add-requires-clause-few
add-requires-clause-few c = λ k below.
    let few = free_few _ _ _ k c.loop-at.invariant.passed below in
    let inside = c.loop-at.invariant.passed.inside in
    let most = c.requires.accepted.heap.1.tiles.head.most in
    omega arith

pub returns-clause-painted : goal.returns-clause-painted
returns-clause-painted c =
    let len = c.len.ensures in
    (passed_all _ _ _ (omega arith) c.loop-at.invariant.passed).holds
