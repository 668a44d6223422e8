-- `mark_bytes` marks each cell that has some of these bytes, by the laws of CellLaws.
use Rattle.heap_map.proofs.Laws.{arith, slice_index, cells_order, cells_within, cell_marked}
use Rattle.heap_map.proofs.cells.mark_bytes.Goals as goal

pub lower-requires : goal.lower-requires
lower-requires c =
    let order = cells_order c.args.size c.args.from c.args.to c.requires.positive c.requires.some in
    let within = cells_within _ _ _ _ c.requires.positive c.requires.some c.requires.inside in
    record { order = omega (arith, order); within = omega (arith, within) }

pub returns : goal.returns
returns c = λ k below. cell_marked c.args.size k c.args.from c.args.to c.args.mark
    (slice_index c.args.marks.now k) (slice_index c.lower.new.marks k) c.requires.positive
    c.requires.some (c.lower.ensures.outside k) (c.lower.ensures.inside k)
