-- `marks_of` returns the marks of all cells of an accepted image, by the laws of CellLaws.
use Rattle.heap_map.proofs.Laws.{◌≡◌, ◌<◌, ◌-◌, ◌*◌, ◌∙◌, ℕ, List, length, get_or, ap, arith, min, chunks_of, area_size, first_mark, free_within, mark_is, free_total_most, marks_more, marks_all}
use Rattle.heap_map.proofs.cells.marks_of.Goals as goal

pub cell_byte-requires : goal.cell_byte-requires
cell_byte-requires g c =
    let image = c.args.region.now.bytes in
    let k = c.loop-k.k in
    let firsts = ap length c.as_slice-firsts.ensures.value in
    let same = c.requires.painted.same in
    let below : k < length c.args.cells.now.free.items = omega arith in
    let is =
    ap (λ xs. get_or xs k 0) c.as_slice-free.ensures.value ∙ c.requires.painted.free k below in
    let most = free_total_most image c.args.cells.now.size k c.requires.accepted in
    omega arith

pub loop-k-preserved : goal.loop-k-preserved
loop-k-preserved g c =
    let image = c.args.region.now.bytes in
    let k = c.loop-k.k in
    let firsts = ap length c.as_slice-firsts.ensures.value in
    let same = c.requires.painted.same in
    let below : k < length c.args.cells.now.marks.items = omega arith in
    let below_free : k < length c.args.cells.now.free.items = omega arith in
    let mark =
    ap (λ xs. get_or xs k 0) c.as_slice-firsts.ensures.value ∙ c.requires.painted.marks k below in
    let free_bytes =
    ap (λ xs. get_or xs k 0) c.as_slice-free.ensures.value ∙ c.requires.painted.free k below_free in
    let len = c.len.ensures in
    let start = c.area_start.ensures in
    let here = c.min-length.ensures in
    let whole : c.min-length.result
    ≡ min c.args.cells.now.size (area_size image - c.args.cells.now.size * k) = omega arith in
    marks_more image k c.cell_byte.result _ c.push.new.items.items c.in_ok-push.ensures.items
    c.loop-k.invariant
    (c.cell_byte.ensures ∙ mark_is image _ k _ _ _ c.requires.size mark free_bytes whole)

pub returns-clause-marks : goal.returns-clause-marks
returns-clause-marks g c =
    let firsts = ap length c.as_slice-firsts.ensures.value in
    let count = c.requires.count in
    marks_all c.args.region.now.bytes c.loop-k.k _ c.loop-k.invariant (omega arith)
