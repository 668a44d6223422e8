-- `draw` finds what is drawn of an accepted image, by the laws of DrawingLaws.
use Rattle.heap_svg.proofs.Laws.{ℕ, length, ap, ◌∙◌, subst, arith, IsRowSize, rows_in, row_low, row_small}
use Rattle.heap_svg.proofs.drawing.draw.Goals as goal

pub row_size-line-requires : goal.row_size-line-requires
row_size-line-requires g c =
    let size = c.requires.summary.heap.size in
    let most = c.requires.accepted.heap.1.tiles.head.most in
    omega arith

pub row_count-requires : goal.row_count-requires
row_count-requires g c =
    let size : ℕ = length c.args.region.now.bytes in
    let line = c.row_size-line.result in
    let summary = c.requires.summary.heap.size in
    let most = c.requires.accepted.heap.1.tiles.head.most in
    let is = subst (λ (n : ℕ). IsRowSize n line) summary c.row_size-line.ensures in
    let low = row_low size line is in
    let small = row_small size line most is in
    record { size = omega arith; line = omega arith }

pub returns-clause-drawing : goal.returns-clause-drawing
returns-clause-drawing g c = record {
  accepted = c.requires.accepted;
  summary = c.requires.summary;
  pieces = c.in_ok-pieces.ensures.pieces;
  count = c.free_pieces.ensures.count;
  few = omega arith;
  largest = c.free_pieces.ensures.largest;
  rooms = c.in_ok-rooms.ensures.all;
  left_count = c.in_ok-rooms.ensures.count;
  left_largest = c.in_ok-rooms.ensures.largest;
  line = rw c.requires.summary.heap.size at c.row_size-line.ensures;
  rows =
      c.row_count.ensures ∙ ap (λ n. rows_in n c.row_size-line.result) c.requires.summary.heap.size;
  strips = c.in_ok-strips.ensures.exact;
  shown = c.in_ok-strips.ensures.shown;
}
