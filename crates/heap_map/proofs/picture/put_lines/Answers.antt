-- `put_lines` writes no further line after a failed write, by the laws of MoreParts.
use Rattle.heap_map.proofs.Laws.{◌≡◌, ◌*◌, ℕ, true, false, length, sym, ap, subst, ◌∙◌, arith, rules, is_ok, Writes, map_body, map_text, head_line, row_lines, tail_lines, area_start, cell_size, cell_count, marks, length-marks, cell_starts, few_cells}
use Rattle.heap_map.proofs.MoreParts.{then_stops}
use Rattle.heap_map.proofs.picture.put_lines.Goals as goal

pub put_rows-requires : goal.put_rows-requires
put_rows-requires g c =
    let image = c.args.region.now.bytes in
    let count =
    ap length c.deref.ensures.value ∙ ap length c.requires.picture.marks_are ∙ length-marks image in
    let most = c.requires.accepted.heap.1.tiles.head.most in
    record {
      few = let few = few_cells image c.requires.accepted in omega arith;
      offsets = λ k below.
          let starts = cell_starts image k c.requires.accepted (omega arith) in
          let size = c.requires.picture.size in
          let product : c.args.picture.now.size * k ≡ cell_size image * k =
          ap (λ (n : ℕ). n * k) size in
          let start = c.area_start.ensures in
          omega arith;
    }

pub returns-in_err-put_rows : goal.returns-in_err-put_rows
unfolding map_text map_body
returns-in_err-put_rows g c =
    let image = c.args.region.now.bytes in
    let head : Writes g.W.Write.contents c.args.out.now c.put_head.new.out (head_line image) true =
    search rules in
    let rows : Writes g.W.Write.contents c.put_head.new.out c.put_rows.new.out
    (row_lines (area_start image) (cell_size image) (marks image)) false = search rules in
    let failed : is_ok c.from_residual-in_err-put_rows.result ≡ false = search rules in
    subst (Writes g.W.Write.contents c.args.out.now c.put_rows.new.out (map_text image))
    (sym failed) (then_stops g.W.Write.contents c.args.out.now c.put_head.new.out c.put_rows.new.out
    (head_line image) (row_lines (area_start image) (cell_size image) (marks image))
    (tail_lines image) head rows)
